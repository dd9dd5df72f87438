-- The turn of an object at a select: an alternative is picked, a call is answered, or a message is taken.
use Rattle.std.proofs.Common.{◌≡◌, ◌≢◌, ◌⊎◌, inl, inr, refl, sym, ap, subst, ◌∙◌, ℕ, suc, ◌+◌, List, [], ◌∷◌, Option, Some, None, is_some, is_none, Bool, true, false, ◌&&◌, ◌||◌, arith}
use Rattle.std.specs.Prelude.{slice_get}
use Rattle.std.specs.List.{list_any}
use Rattle.std.specs.Ordering.{nat_cmp}
use Rattle.std.specs.FinMap.{find}
use Rattle.run_types.specs.declared.types.Value.TheVariants as V
use Rattle.run_types.specs.declared.types.Error.{Error}
use Rattle.run_types.specs.declared.types.Label.TheVariants as L
use Rattle.run_types.specs.declared.types.Placement.{Placement}
use Rattle.run_types.specs.Tables.{without, Each}
use Rattle.run_types.proofs.Laws.{equals, first, second, same_some, find_without_same, find_without_other, values_itself}
use Rattle.mesh_semantics.proofs.Laws.{runs, taken_own, taken_some, is_call_of, none_before, earliest}
use Rattle.mesh_semantics.specs.Kind as K
use Rattle.mesh_semantics.specs.Kind.{Kind, Alternative, has_name, answered, answers, is_plain, alternatives}
use Rattle.mesh_semantics.specs.Language.{Language}
use Rattle.mesh_semantics.specs.Config.{Config, object_of, put_object, put_messages, messages_of}
use Rattle.mesh_semantics.specs.Moves.{move, offered, numbered, has_message, first_message, without_message}
use Rattle.run_types.specs.Paths.{path, along, without_first}
use Rattle.mesh_semantics.specs.Delay as D
use Rattle.mesh_semantics.specs.Delay.{Packet, Arrival, Holding, Delay, arrived_at, held, free, take_arrival, is_for}
use Rattle.run_types.specs.ObjectNames.{node_of}
use Rattle.mesh_semantics.specs.Act.{id, labelled, first_arrival, is_possible, chosen_turn, choice_turn, accept_turn}
use Rattle.mesh_semantics.specs.Sound.{Entry, Sent, Called, call_by, Owns, OwnedAt, entries, letter}
use Rattle.mesh_semantics.specs.Lawful.{CanServe}
use Rattle.node_semantics.specs.Node.{Slot, NumberedArrival, NodeState, set_at, name_at, arrivals, is_on, first_on, serve_act, chosen_act, choice_act}
use Rattle.node_semantics.specs.Machine.{Machine}
use Rattle.node_semantics.specs.StandsFor.{request_of, SlotStandsFor, Served, Posted, IsNumberOf, AreNumbersOf, caller_of, MachineStandsFor}
use Rattle.node_semantics.proofs.KeptNumbers.{Same, same_slot}
use Rattle.node_semantics.proofs.NamesAfterChange.{Spot, Found, found, Any, served_kept}
use Rattle.node_semantics.proofs.SmallChanges.{chain, object_stands}
use Rattle.node_semantics.proofs.NamedChanges.{take_stands}
use Rattle.node_semantics.proofs.OneObjectTurns.{Row, Turning, x₁, d₁, spot_here, pick_row}
use Rattle.node_semantics.proofs.PostTurns.{stands₁, node₁, aside_same, own_o, slot_o, messages_stand}

-- a mailbox and the messages in it

first_same : (names : List ℕ) (ls : List NumberedArrival) (f : NumberedArrival) → first_on names ls ≡ Some f → first_arrival names (arrivals ls) ≡ Some f.message
first_same names [] f h = absurd (cc)
first_same names (a ∷ ls) f h = by (has_name names a.message.method) refl (first_same names ls f)
  where
    by : (b : Bool) → has_name names a.message.method ≡ b → (first_on names ls ≡ Some f → first_arrival names (arrivals ls) ≡ Some f.message)
        → first_arrival names (arrivals (a ∷ ls)) ≡ Some f.message
    by true i k = let e : a ≡ f = same_some (rw i at h) in rw i (ap (λ (z : NumberedArrival). Some z.message) e)
    by false i k = rw i (k (rw i at h))

pub none_same : (names : List ℕ) (ls : List NumberedArrival) → first_on names ls ≡ None → first_arrival names (arrivals ls) ≡ None
none_same names [] h = refl
none_same names (a ∷ ls) h = by (has_name names a.message.method) refl (none_same names ls)
  where
    by : (b : Bool) → has_name names a.message.method ≡ b → (first_on names ls ≡ None → first_arrival names (arrivals ls) ≡ None) → first_arrival names (arrivals (a ∷ ls)) ≡ None
    by true i k = absurd (let e : Some a ≡ None = rw i at h in cc)
    by false i k = rw i (k (rw i at h))

first_each : (P : NumberedArrival → Type 0) (names : List ℕ) (ls : List NumberedArrival) (f : NumberedArrival) → first_on names ls ≡ Some f → Each P ls → P f
first_each P names [] f h e = absurd (cc)
first_each P names (a ∷ ls) f h e = by (has_name names a.message.method) refl (first_each P names ls f)
  where
    by : (b : Bool) → has_name names a.message.method ≡ b → (first_on names ls ≡ Some f → Each P ls → P f) → P f
    by true i k = let z : a ≡ f = same_some (rw i at h) in subst P z e.0
    by false i k = k (rw i at h) e.1

-- what is on a method that has arrived is found
abbrev HasArrived : List Arrival → ℕ → Type 0
HasArrived box m = (names : List ℕ) → has_name names m ≡ true → is_some (first_arrival names box) ≡ true

arrived_first : (names : List ℕ) (box : List Arrival) (a : Arrival) → first_arrival names box ≡ Some a → (has_name names a.method ≡ true) × HasArrived box a.method
arrived_first names [] a h = absurd (cc)
arrived_first names (x ∷ box) a h = by (has_name names x.method) refl (arrived_first names box a)
  where
    by : (b : Bool) → has_name names x.method ≡ b → (first_arrival names box ≡ Some a → (has_name names a.method ≡ true) × HasArrived box a.method)
        → (has_name names a.method ≡ true) × HasArrived (x ∷ box) a.method
    by true i k =
        let e : x ≡ a = same_some (rw i at h) in
        (subst (λ (z : Arrival). has_name names z.method ≡ true) e i, λ others t. let u : has_name others x.method ≡ true = subst (λ (z : Arrival). has_name others z.method ≡ true) (sym e) t in rw u refl)
    by false i k =
        let r = k (rw i at h) in
        (r.0, λ others t. more others (has_name others x.method) refl (r.1 others t))
      where
        more : (others : List ℕ) (b : Bool) → has_name others x.method ≡ b → is_some (first_arrival others box) ≡ true → is_some (first_arrival others (x ∷ box)) ≡ true
        more others true j z = rw j refl
        more others false j z = rw j z

-- an alternative that is not possible answers nothing that has arrived
not_answering : (box : List Arrival) (a : Alternative) (m : ℕ) → HasArrived box m → is_possible box a ≡ false → answers a m ≡ false
not_answering box a m h e = by a.is_open a.names refl refl
  where
    on : (names : List ℕ) (b : Bool) → has_name names m ≡ b → a.is_open ≡ true → a.names ≡ Some names → answers a m ≡ false
    on names true i j k = absurd (let z = h names i in let q : is_some (first_arrival names box) ≡ false = rw (j, k) at e in cc)
    on names false i j k = rw (j, k) i

    by : (t : Bool) (names : Option (List ℕ)) → a.is_open ≡ t → a.names ≡ names → answers a m ≡ false
    by false names i j = rw i refl
    by true None i j = rw (i, j) refl
    by true (Some names) i j = on names (has_name names m) refl i j

module _ {S : Type 0} (g : Language S) (W : Config S → Type 0) (l : Placement) (m : Machine S) (c : Config S) (d : Delay) (n i : ℕ) (x : NodeState S) (s : Slot S)
    (t : Turning g W l m c d n i x s) where
  abbrev o : ℕ
  o = name_at n i

  abbrev x' : NodeState S
  x' = x₁ g W l m c d n i x s t

  abbrev d' : Delay
  d' = d₁ g W l m c d n i x s t

  abbrev m₁ : Machine S
  m₁ = record m { nodes = set_at m.nodes n x'; links = m.links }

  typed : W c
  typed = t.sound.state.typed

  keep : (q : ℕ) → Any q → Same m m₁ q
  keep q z = same_slot m m₁ q (aside_same g W l m c d n i x s t x' refl m.links q)

  box_is : arrivals s.mailbox ≡ arrived_at d o
  box_is = (spot_here g W l m c d n i x s t).0.mailbox

  module _ (alts : List Alternative) (kind : g.kind o s.state ≡ K.Select alts) (names : List ℕ) (j : ℕ) (f : NumberedArrival) (is_first : first_on names s.mailbox ≡ Some f)
      (offers : offered 1 alts f.message.method ≡ Some (j, names)) where
    abbrev a : Arrival
    a = f.message

    first_is : first_arrival names (arrived_at d o) ≡ Some a
    first_is = subst (λ b. first_arrival names b ≡ Some a) box_is (first_same names s.mailbox f is_first)

    number : IsNumberOf m f.number (caller_of a)
    number = first_each (λ e. IsNumberOf m e.number (caller_of e.message)) names s.mailbox f is_first (spot_here g W l m c d n i x s t).1

    -- the slot after its message was taken
    module _ (c₁ : Config S) (h : List (ℕ × Holding)) (base : MachineStandsFor g l m₁ c₁ (record d' { holding = h })) (still : find nat_cmp o h ≡ None) (y : S) (ks : List ℕ)
        (fit : AreNumbersOf m₁ ks (g.callers y)) where
      abbrev taking : Slot S
      taking = record s { state = y; callers = ks; mailbox = without_first (is_on names) s.mailbox }

      abbrev x₂ : NodeState S
      x₂ = record x' { slots = set_at x'.slots i taking }

      taken : MachineStandsFor g l (record m { nodes = set_at m.nodes n x₂; links = m.links }) (put_object c₁ o y) (record d' { holding = h; arrived = without_first (is_for o names) d.arrived })
      taken = chain g l m n x' x₂ m.links (put_object c₁ o y) _
          (subst (λ k. MachineStandsFor g l (record m { nodes = set_at (set_at m.nodes n x') n (record x' { slots = set_at x'.slots k taking }); links = m.links }) (put_object c₁ o y)
          (record d' { holding = h; arrived = without_first (is_for o names) d.arrived })) (slot_o g W l m c d n i x s t)
          (take_stands g l m₁ c₁ (record d' { holding = h }) base n x' (node₁ g W l m c d n i x s t) o (own_o g W l m c d n i x s t) s
          (aside_same g W l m c d n i x s t x' refl m.links o ∙ t.here) names y ks t.idle still fit))

    -- a message that nobody waits for
    take_row : a.is_call ≡ false → Row g W l m n (serve_act g n x' i s j names None a) (labelled g c (L.Take o a.sender (id a.method) a.args) (take_arrival o names d'))
    take_row e = rw (can.1, moved) (
      refl,
      t.law.kept c c₂ (L.Take o a.sender (id a.method) a.args) typed moved,
      messages_stand g l _ (put_object c o can.0) _ a.sender o _ (taken c d.holding (stands₁ g W l m c d n i x s t) t.free can.0 s.callers fit),
    )
      where
        rests : first_message names (messages_of c a.sender o) ≡ Some (record { method = a.method; args = a.args })
        rests = let r = earliest names a.sender (along (letter a.sender o) d.links (path l (node_of a.sender) (node_of o))) (arrived_at d o) a first_is e refl in
            subst (λ ms. first_message names ms ≡ Some (record { method = a.method; args = a.args })) (sym (t.sound.state.lists a.sender o)) r.0

        serves : CanServe g c o a.method a.args
        serves = t.law.can_take c names a.sender o (record { method = a.method; args = a.args }) typed rests

        can : (z : S) × (g.serving o s.state j a.method None a.args ≡ Some z)
        can = let y = serves in let same : y.0 ≡ s.state = same_some (sym y.1 ∙ t.there) in
            subst (λ w. (z : S) × (g.serving o w j a.method None a.args ≡ Some z)) same (y.2 j names None (rw (ap (λ z. alternatives (g.kind o z)) same ∙ ap alternatives kind) offers))

        c₂ : Config S
        c₂ = put_messages (put_object c o can.0) a.sender o (without_message names (messages_of c a.sender o))

        moved : move g c (L.Take o a.sender (id a.method) a.args) ≡ Some c₂
        moved = rw (runs g c o s.state t.there t.sane, kind, offers, rests, equals a.method, values_itself a.args, can.1) refl

        fit : AreNumbersOf m₁ s.callers (g.callers can.0)
        fit = served_kept g m m₁ Any keep s.callers (g.callers can.0) (λ q z. tt)
            (subst (AreNumbersOf m s.callers) (sym (t.req.serving_callers c o s.state alts j a.method None a.args can.0 typed t.there kind can.1)) (spot_here g W l m c d n i x s t).2)

    -- a call
    record Caller : Type 0 where
      state : S
      object : object_of c a.sender ≡ Some state
      held : held d a.sender ≡ Some D.Posted
      posts_request : g.kind a.sender state ≡ K.Send o a.method a.args

    caller : a.is_call ≡ true → Caller
    caller e = by (object_of c a.sender) (held d a.sender) refl refl (t.sound.state.owned a.sender)
      where
        k : ℕ
        k = a.sender

        mine : is_call_of a.sender a ≡ true
        mine = rw e (equals a.sender)

        some : entries d a.sender ≢ []
        some = taken_some o names a d first_is a.sender mine

        alone : (z : Entry) → entries d a.sender ≡ z ∷ [] → z ≡ Called o a
        alone z h = (taken_own o names a d first_is a.sender z mine h).0

        posted : (y : S) → object_of c a.sender ≡ Some y → held d a.sender ≡ Some D.Posted → (z : Kind) → g.kind a.sender y ≡ z → Owns a.sender (Some D.Posted) z (entries d a.sender) → Caller
        posted y i h (K.New q) r u = absurd (let v = alone _ u.2 in cc)
        posted y i h (K.Send b k args) r (inl u) = absurd (let v = alone _ u in cc)
        posted y i h (K.Send b k args) r (inr u) =
            let v : Called b (call_by a.sender k args) ≡ Called o a = alone _ u in
            let to : b ≡ o = cc in
            let arrival : call_by a.sender k args ≡ a = cc in
            record {
              state = y;
              object = i;
              held = h;
              posts_request = r ∙ (λ w. K.Send (to w) ((arrival w).method) ((arrival w).args));
            }
        posted y i h z r u = absurd u

        by : (y : Option S) (h : Option Holding) → object_of c a.sender ≡ y → held d a.sender ≡ h → OwnedAt g a.sender y h (entries d a.sender) → Caller
        by None h i u z = absurd (some z.1)
        by (Some y) None i u z = absurd (some z.0)
        by (Some y) (Some D.Posted) i u z = posted y i u (g.kind a.sender y) refl z.0
        by (Some y) (Some (D.Due v)) i u z = absurd (due z.0.1)
          where
            due : (entries d a.sender ≡ Sent (D.Result a.sender v) ∷ []) ⊎ ((q : ℕ) × (v ≡ V.Ref q) × (entries d a.sender ≡ Sent (D.Created a.sender q) ∷ [])) → ⊥
            due (inl h) = let r = alone _ h in cc
            due (inr h) = let r = alone _ h.2 in cc

    answer_row : a.is_call ≡ true → (z : ℕ) → request_of m a.sender ≡ Some z
        → Row g W l m n (serve_act g n x' i s j names (Some z) a) (labelled g c (L.Answer o a.sender (id a.method) a.args) (free a.sender (take_arrival o names d')))
    answer_row e z r = rw (can.1, moved) (
      refl,
      t.law.kept c c₂ (L.Answer o a.sender (id a.method) a.args) typed moved,
      taken c₁ (without nat_cmp k d.holding) waits (find_without_other o k d.holding apart ∙ t.free) can.0 (z ∷ s.callers) fit,
    )
      where
        k : ℕ
        k = a.sender

        q : Caller
        q = caller e

        apart : o ≢ a.sender
        apart h = let u : None ≡ Some D.Posted = sym t.free ∙ ap (held d) h ∙ q.held in cc

        sane : g.fault q.state ≡ None
        sane = by (g.fault q.state) refl
          where
            by : (y : Option Error) → g.fault q.state ≡ y → g.fault q.state ≡ None
            by None u = u
            by (Some y) u = absurd (let v : K.Send o a.method a.args ≡ K.Fault y = sym q.posts_request ∙ t.law.fault_kind c a.sender q.state y typed q.object u in cc)

        can : (y : S) × (g.serving o s.state j a.method (Some a.sender) a.args ≡ Some y)
        can = let y = t.law.can_call c a.sender q.state o a.method a.args typed q.object q.posts_request in
            let same : y.0 ≡ s.state = same_some (sym y.1 ∙ t.there) in
            subst (λ w. (z : S) × (g.serving o w j a.method (Some a.sender) a.args ≡ Some z)) same (y.2 j names (Some a.sender) (rw (ap (λ z. alternatives (g.kind o z)) same ∙ ap alternatives kind) offers))

        none : has_message names (messages_of c a.sender o) ≡ false
        none = subst (λ ms. has_message names ms ≡ false) (sym (t.sound.state.lists a.sender o))
            (none_before names a.sender (along (letter a.sender o) d.links (path l (node_of a.sender) (node_of o))) (arrived_at d o) a first_is e refl (t.sound.state.order a.sender o))

        c₁ : Config S
        c₁ = put_object c a.sender (g.waiting q.state o a.method)

        c₂ : Config S
        c₂ = put_object c₁ o can.0

        moved : move g c (L.Answer o a.sender (id a.method) a.args) ≡ Some c₂
        moved = rw (runs g c a.sender q.state q.object sane, runs g c o s.state t.there t.sane, q.posts_request, equals o, equals a.method, values_itself a.args, kind, offers, none, can.1) refl

        f₁ : Found g l m₁ c d' (stands₁ g W l m c d n i x s t) a.sender q.state
        f₁ = found g l m₁ c d' (stands₁ g W l m c d n i x s t) a.sender q.state q.object

        served : SlotStandsFor g a.sender f₁.slot (g.waiting q.state o a.method) None
        served = by (held d a.sender) refl f₁.stands.state
          where
            by : (h : Option Holding) → held d a.sender ≡ h → SlotStandsFor g a.sender f₁.slot q.state h → SlotStandsFor g a.sender f₁.slot (g.waiting q.state o a.method) None
            by None u v = absurd (let w : None ≡ Some D.Posted = sym u ∙ q.held in cc)
            by (Some (D.Due y)) u v = absurd (let w : Some (D.Due y) ≡ Some D.Posted = sym u ∙ q.held in cc)
            by (Some D.Posted) u (Posted v w) = Served o a.method a.args v (ap (g.kind a.sender) w ∙ q.posts_request) (ap (λ y. g.waiting y o a.method) w)

        waits : MachineStandsFor g l m₁ c₁ (record d' { holding = without nat_cmp a.sender d.holding })
        waits = object_stands g l m₁ c d' (stands₁ g W l m c d n i x s t) a.sender (g.waiting q.state o a.method) (without nat_cmp a.sender d.holding)
            (λ b u. find_without_other b a.sender d.holding u) (
            subst (λ y. Spot g m₁ a.sender y (Some (g.waiting q.state o a.method)) (find nat_cmp a.sender (without nat_cmp a.sender d.holding)) (arrived_at d' a.sender)) (sym f₁.here) (
            subst (λ h. Spot g m₁ a.sender (Some f₁.slot) (Some (g.waiting q.state o a.method)) h (arrived_at d' a.sender)) (sym (find_without_same a.sender d.holding)) (
              record { state = served; mailbox = f₁.stands.mailbox },
              f₁.mailbox,
              subst (AreNumbersOf m₁ f₁.slot.callers) (sym (t.req.waiting_callers a.sender q.state o a.method a.args q.posts_request)) f₁.callers,
            )))

        fit : AreNumbersOf m₁ (z ∷ s.callers) (g.callers can.0)
        fit = subst (AreNumbersOf m₁ (z ∷ s.callers)) (sym (t.req.serving_callers c o s.state alts j a.method (Some a.sender) a.args can.0 typed t.there kind can.1)) (
          (keep a.sender tt).request ∙ r,
          served_kept g m m₁ Any keep s.callers (g.callers s.state) (λ b u. tt) (spot_here g W l m c d n i x s t).2,
        )

    arrival_row : Row g W l m n (serve_act g n x' i s j names f.number a) (accept_turn g c d' o names (Some a))
    arrival_row = by a.is_call f.number refl number
      where
        by : (b : Bool) (z : Option ℕ) → a.is_call ≡ b → IsNumberOf m z (caller_of a) → Row g W l m n (serve_act g n x' i s j names z a) (accept_turn g c d' o names (Some a))
        by true None e h = absurd (let u : IsNumberOf m None (Some a.sender) = rw e at h in let v = u.0.1 in cc)
        by true (Some z) e h = let u : IsNumberOf m (Some z) (Some a.sender) = rw e at h in rw e (answer_row e z u.1)
        by false None e h = rw e (take_row e)
        by false (Some z) e h = absurd (let u : IsNumberOf m (Some z) None = rw e at h in cc)

  -- the first possible alternative
  module _ (alts : List Alternative) (kind : g.kind o s.state ≡ K.Select alts) where
    chosen_row : (j : ℕ) (b : Alternative) → numbered alts j ≡ Some b → is_possible (arrived_at d o) b ≡ true
        → ((k : ℕ) → HasArrived (arrived_at d o) k → answers b k ≡ true → offered 1 alts k ≡ Some (j, answered b.names))
        → Row g W l m n (chosen_act g n x' i s j b.names (first_on (answered b.names) s.mailbox)) (chosen_turn g c d' o j b.names)
    chosen_row j b at possible offers = by b.names refl
      where
        open_is : b.is_open ≡ true
        open_is = first b.is_open (is_none b.names || is_some (first_arrival (answered b.names) (arrived_at d o))) possible

        by : (names : Option (List ℕ)) → b.names ≡ names → Row g W l m n (chosen_act g n x' i s j names (first_on (answered names) s.mailbox)) (chosen_turn g c d' o j names)
        by None e = pick_row g W l m c d n i x s t alts j kind (rw at (rw (open_is, e) refl))
        by (Some names) e = on (first_on names s.mailbox) refl
          where
            on : (f : Option NumberedArrival) → first_on names s.mailbox ≡ f → Row g W l m n (chosen_act g n x' i s j (Some names) f) (accept_turn g c d' o names (first_arrival names (arrived_at d o)))
            on None h = absurd (
                let u : first_arrival names (arrived_at d o) ≡ None = subst (λ z. first_arrival names z ≡ None) box_is (none_same names s.mailbox h) in
                let v : (b.is_open && false) ≡ true = rw (e, u) at possible in let w = second b.is_open false v in cc)
            on (Some f) h =
                let u : first_arrival names (arrived_at d o) ≡ Some f.message = subst (λ z. first_arrival names z ≡ Some f.message) box_is (first_same names s.mailbox f h) in
                let v = arrived_first names (arrived_at d o) f.message u in
                let w : offered 1 alts f.message.method ≡ Some (j, names) = offers f.message.method v.1 (rw (open_is, e) v.0) ∙ ap (λ z. Some (j, answered z)) e in
                rw u (arrival_row alts kind names j f h w)

    choice : (j : ℕ) (rest : List Alternative) → ((k : ℕ) → numbered alts (j + k) ≡ slice_get rest k)
        → ((k : ℕ) → HasArrived (arrived_at d o) k → offered 1 alts k ≡ offered j rest k) → list_any (is_possible (arrived_at d o)) rest ≡ true
        → Row g W l m n (choice_act g n x' i s j rest) (choice_turn g c d' o j rest)
    choice j [] at offers some = absurd (cc)
    choice j (b ∷ rest) at offers some = by (is_possible (arrived_at d o) b) refl (choice (j + 1) rest)
      where
        here : numbered alts j ≡ Some b
        here = let e : j + 0 ≡ j = omega arith in subst (λ z. numbered alts z ≡ Some b) e (at 0)

        mine : is_possible (arrivals s.mailbox) b ≡ is_possible (arrived_at d o) b
        mine = ap (λ z. is_possible z b) box_is

        by : (p : Bool) → is_possible (arrived_at d o) b ≡ p
            → (((k : ℕ) → numbered alts (j + 1 + k) ≡ slice_get rest k) → ((k : ℕ) → HasArrived (arrived_at d o) k → offered 1 alts k ≡ offered (j + 1) rest k)
            → list_any (is_possible (arrived_at d o)) rest ≡ true → Row g W l m n (choice_act g n x' i s (j + 1) rest) (choice_turn g c d' o (j + 1) rest))
            → Row g W l m n (choice_act g n x' i s j (b ∷ rest)) (choice_turn g c d' o j (b ∷ rest))
        by true p k = rw (mine, p) (chosen_row j b here p (λ z h u. offers z h ∙ rw u refl))
        by false p k = rw (mine, p) (k
            (λ z. let e : j + suc z ≡ j + 1 + z = omega arith in subst (λ w. numbered alts w ≡ slice_get rest z) e (at (suc z)))
            (λ z h. offers z h ∙ rw (not_answering (arrived_at d o) b z h p) refl)
            (rw p at some))

    pub select_row : list_any (is_possible (arrived_at d o)) alts ≡ true → Row g W l m n (choice_act g n x' i s 1 alts) (choice_turn g c d' o 1 alts)
    select_row some = choice 1 alts (λ k. let e : suc k ≡ 1 + k = omega arith in subst (λ z. numbered alts z ≡ slice_get alts k) e refl) (λ k h. refl) some
