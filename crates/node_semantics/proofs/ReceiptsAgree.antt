-- The receipt of a packet at its goal.
use Rattle.std.proofs.Common.{◌≡◌, ◌≢◌, ◌⊎◌, inl, inr, refl, sym, ap, ap₂, subst, ◌∙◌, ℕ, zero, suc, ◌+◌, ◌*◌, ◌<◌, ◌==◌, List, [], ◌∷◌, ◌++◌, length, Option, Some, None, Bool, true, false, arith}
use Rattle.std.specs.Prelude.{slice_get}
use Rattle.std.specs.Ordering.{nat_cmp}
use Rattle.std.specs.FinMap.{find, put}
use Rattle.std.proofs.lemmas.Option.{slice_get_within}
use Rattle.run_types.specs.declared.types.Value.{Value}
use Rattle.run_types.specs.declared.types.Value.TheVariants as V
use Rattle.run_types.specs.declared.types.Error.{Error}
use Rattle.run_types.specs.declared.types.Label.TheVariants as L
use Rattle.run_types.specs.declared.types.Placement.{Placement}
use Rattle.run_types.specs.Tables.{Pair, Each}
use Rattle.run_types.proofs.Laws.{decide, equals, same_some, find_put_same, find_put_other}
use Rattle.mesh_semantics.proofs.Laws.{runs, each_head, moved_own, moved_some, no_part}
use Rattle.mesh_semantics.specs.Kind as K
use Rattle.mesh_semantics.specs.Kind.{Kind}
use Rattle.mesh_semantics.specs.Language.{Language}
use Rattle.mesh_semantics.specs.Config.{Config, object_of, put_object}
use Rattle.mesh_semantics.specs.Moves.{move}
use Rattle.run_types.specs.Paths.{next, path, walk, on_link, move_head, is_link}
use Rattle.mesh_semantics.specs.Delay as D
use Rattle.mesh_semantics.specs.Delay.{Packet, Arrival, Holding, Delay, arrived_at, held, hold, free, post, arrive, cell_count}
use Rattle.mesh_semantics.specs.NumberedPackets.{NumberedPacket}
use Rattle.run_types.specs.ObjectNames.{node_of, slot_of}
use Rattle.mesh_semantics.specs.Act.{id, shows, received, next_name, object_count, goal_node, first_of}
use Rattle.mesh_semantics.specs.Sound.{IsPlaced, Has, Entry, Sent, owns, sent_of, called_of, Owns, OwnedAt, entries, IsSound, is_wait}
use Rattle.mesh_semantics.specs.Lawful.{Lawful}
use Rattle.run_types.specs.PathFacts.{In}
use Rattle.node_semantics.specs.Node.{Slot, NodeState, set_at, name_at, settled, settle_number, created_for, receipt, add_slot}
use Rattle.node_semantics.specs.Machine.{Machine}
use Rattle.mesh_semantics.specs.Requests.{Requests}
use Rattle.node_semantics.specs.StandsFor.{slot_at, request_of, request_in, SlotStandsFor, Free, Served, Posted, Due, AtName, caller_of, PacketFits, IsNumberOf, AreNumbersOf, MachineStandsFor}
use Rattle.node_semantics.specs.Receives.{IsAwaited, Meets}
use Rattle.node_semantics.proofs.NamesAndSlots.{at_node, name_node, name_slot}
use Rattle.node_semantics.proofs.KeptNumbers.{no_caller, none_called, of_messages}
use Rattle.node_semantics.proofs.NamesAfterChange.{Spot, Found, found}
use Rattle.node_semantics.proofs.SettledNumber.{settled_is, given_to}
use Rattle.node_semantics.proofs.SmallChanges.{post_stands, object_stands}
use Rattle.node_semantics.proofs.NamedChanges.{settle_stands}
use Rattle.node_semantics.proofs.AddedObject.{add_stands, add_there, is_new, no_object}
use Rattle.node_semantics.proofs.PostTurns.{deliver_stands}
use Rattle.node_semantics.proofs.NodeCounts.{objects_count}
use Rattle.node_semantics.proofs.OneObjectTurns.{Row}

-- a sent entry is its packet's
pub sent_same : (p q : Packet) → Sent p ≡ Sent q → p ≡ q
sent_same p q e = cc

module _ {S : Type 0} (g : Language S) (W : Config S → Type 0) (l : Placement) (c : Config S) (d : Delay) (sound : IsSound g W l c d) (k : Pair) where
  abbrev pub d₁ : Delay
  d₁ = record d { links = move_head k d.links }

  -- who owned nothing owns nothing
  moved_nothing : (q : ℕ) → entries d q ≡ [] → entries d₁ q ≡ []
  moved_nothing q h = let n = no_part (sent_of q d.links) (called_of q d.arrived) h in ap₂ ◌++◌ (fewer q d.links n.0) n.1
    where
      fewer : (q : ℕ) (ls : List (Pair × Packet)) → sent_of q ls ≡ [] → sent_of q (move_head k ls) ≡ []
      fewer q [] h = refl
      fewer q (e ∷ ls) h = by (is_link k.0 k.1 e.0) (owns q e.1) refl refl (fewer q ls)
        where
          by : (t u : Bool) → is_link k.0 k.1 e.0 ≡ t → owns q e.1 ≡ u → (sent_of q ls ≡ [] → sent_of q (move_head k ls) ≡ []) → sent_of q (move_head k (e ∷ ls)) ≡ []
          by t true i j r = absurd (let z : Sent e.1 ∷ sent_of q ls ≡ [] = rw j at h in cc)
          by true false i j r = rw i (rw j at h)
          by false false i j r = rw (i, j) (r (rw j at h))

  -- who made a request for an object
  pub record Creator (o goal class : ℕ) : Type 0 where
    pub state : S
    pub object : object_of c o ≡ Some state
    pub held : held d o ≡ Some D.Posted
    pub kind : g.kind o state ≡ K.New class
    pub away : goal ≢ node_of o
    pub none : entries d₁ o ≡ []

  pub creator : (o goal class : ℕ) → first_of (on_link d.links k) ≡ Some (D.Create o goal class) → Creator o goal class
  creator o goal class head = by (object_of c o) (held d o) refl refl (sound.state.owned o)
    where
      p : Packet
      p = D.Create o goal class

      some : entries d o ≢ []
      some = moved_some k p d head o (equals o)

      alone : (e : Entry) → entries d o ≡ e ∷ [] → (e ≡ Sent p) × (entries d₁ o ≡ [])
      alone e h = moved_own k p d head o e (equals o) h

      posted : (y : S) → object_of c o ≡ Some y → held d o ≡ Some D.Posted → (z : Kind) → g.kind o y ≡ z → Owns o (Some D.Posted) z (entries d o) → Creator o goal class
      posted y i j (K.New a) q h =
          let r = alone (Sent (D.Create o h.0 a)) h.2 in
          let s : D.Create o h.0 a ≡ D.Create o goal class = sent_same _ _ r.0 in
          let same : a ≡ class = cc in
          let to : h.0 ≡ goal = cc in
          record { state = y; object = i; held = j; kind = q ∙ ap K.New same; away = λ e. h.1 (to ∙ e); none = r.1 }
      posted y i j (K.Send a b args) q (inl h) = absurd (let r = (alone (Sent (D.Request o a b args)) h).0 in let s : D.Request o a b args ≡ D.Create o goal class = sent_same _ _ r in cc)
      posted y i j (K.Send a b args) q (inr h) = absurd (let r = (alone _ h).0 in cc)
      posted y i j z q h = absurd h

      by : (a : Option S) (h : Option Holding) → object_of c o ≡ a → held d o ≡ h → OwnedAt g o a h (entries d o) → Creator o goal class
      by None h i j z = absurd (some z.1)
      by (Some y) None i j z = absurd (some z.0)
      by (Some y) (Some D.Posted) i j z = posted y i j (g.kind o y) refl z.0
      by (Some y) (Some (D.Due v)) i j z = absurd (due z.0.1)
        where
          due : (entries d o ≡ Sent (D.Result o v) ∷ []) ⊎ ((n : ℕ) × (v ≡ V.Ref n) × (entries d o ≡ Sent (D.Created o n) ∷ [])) → ⊥
          due (inl h) = let r = (alone (Sent (D.Result o v)) h).0 in let s : D.Result o v ≡ D.Create o goal class = sent_same _ _ r in cc
          due (inr h) = let r = (alone (Sent (D.Created o h.0)) h.2).0 in let s : D.Created o h.0 ≡ D.Create o goal class = sent_same _ _ r in cc

  -- whose value comes
  pub record Awaiting (o : ℕ) (v : Value) : Type 0 where
    pub state : S
    pub object : object_of c o ≡ Some state
    pub held : held d o ≡ Some (D.Due v)
    pub no_wait : is_wait (g.kind o state) ≡ false
    pub none : entries d₁ o ≡ []

  -- the two packets that bring a value
  abbrev brings : Packet → ℕ → Value → Type 0
  brings p o v = (p ≡ D.Result o v) ⊎ ((n : ℕ) × (v ≡ V.Ref n) × (p ≡ D.Created o n))

  pub awaiting : (p : Packet) (o : ℕ) (v : Value) → brings p o v → owns o p ≡ true → first_of (on_link d.links k) ≡ Some p → Awaiting o v
  awaiting p o v is mine head = by (object_of c o) (held d o) refl refl (sound.state.owned o)
    where
      some : entries d o ≢ []
      some = moved_some k p d head o mine

      alone : (e : Entry) → entries d o ≡ e ∷ [] → (e ≡ Sent p) × (entries d₁ o ≡ [])
      alone e h = moved_own k p d head o e mine h

      not_create : (a b : ℕ) → brings p o v → D.Create o a b ≡ p → ⊥
      not_create a b (inl e) h = let z : D.Create o a b ≡ D.Result o v = h ∙ e in cc
      not_create a b (inr e) h = let z : D.Create o a b ≡ D.Created o e.0 = h ∙ e.2 in cc

      not_request : (a b : ℕ) (args : List Value) → brings p o v → D.Request o a b args ≡ p → ⊥
      not_request a b args (inl e) h = let z : D.Request o a b args ≡ D.Result o v = h ∙ e in cc
      not_request a b args (inr e) h = let z : D.Request o a b args ≡ D.Created o e.0 = h ∙ e.2 in cc

      posted : (z : Kind) → Owns o (Some D.Posted) z (entries d o) → ⊥
      posted (K.New a) h = not_create h.0 a is (sent_same _ _ (alone (Sent (D.Create o h.0 a)) h.2).0)
      posted (K.Send a b args) (inl h) = not_request a b args is (sent_same _ _ (alone (Sent (D.Request o a b args)) h).0)
      posted (K.Send a b args) (inr h) = let r = (alone _ h).0 in cc
      posted z h = h

      due : (y : S) (u : Value) → object_of c o ≡ Some y → held d o ≡ Some (D.Due u) → is_wait (g.kind o y) ≡ false
          → (entries d o ≡ Sent (D.Result o u) ∷ []) ⊎ ((n : ℕ) × (u ≡ V.Ref n) × (entries d o ≡ Sent (D.Created o n) ∷ [])) → brings p o v → Awaiting o v
      due y u i j w (inl h) (inl e) =
          let r = alone (Sent (D.Result o u)) h in
          let s : D.Result o u ≡ D.Result o v = sent_same _ _ r.0 ∙ e in
          let same : u ≡ v = cc in
          record { state = y; object = i; held = j ∙ ap (λ z. Some (D.Due z)) same; no_wait = w; none = r.1 }
      due y u i j w (inr h) (inr e) =
          let r = alone (Sent (D.Created o h.0)) h.2 in
          let s : D.Created o h.0 ≡ D.Created o e.0 = sent_same _ _ r.0 ∙ e.2 in
          let number : h.0 ≡ e.0 = cc in
          let same : u ≡ v = h.1 ∙ ap V.Ref number ∙ sym e.1 in
          record { state = y; object = i; held = j ∙ ap (λ z. Some (D.Due z)) same; no_wait = w; none = r.1 }
      due y u i j w (inl h) (inr e) = absurd (let r = (alone (Sent (D.Result o u)) h).0 in let s : D.Result o u ≡ D.Created o e.0 = sent_same _ _ r ∙ e.2 in cc)
      due y u i j w (inr h) (inl e) = absurd (let r = (alone (Sent (D.Created o h.0)) h.2).0 in let s : D.Created o h.0 ≡ D.Result o v = sent_same _ _ r ∙ e in cc)

      by : (a : Option S) (h : Option Holding) → object_of c o ≡ a → held d o ≡ h → OwnedAt g o a h (entries d o) → Awaiting o v
      by None h i j z = absurd (some z.1)
      by (Some y) None i j z = absurd (some z.0)
      by (Some y) (Some D.Posted) i j z = absurd (posted (g.kind o y) z.0)
      by (Some y) (Some (D.Due u)) i j z = due y u i j z.0.0 z.0.1 is

  -- the machine after the head has left its link
  module _ (law : Lawful g W) (req : Requests g W) (few : l.objects < 65536) (m₁ : Machine S) (st₁ : MachineStandsFor g l m₁ c d₁) (b : ℕ) (x : NodeState S) (node : slice_get m₁.nodes b ≡ Some x) where
    typed : W c
    typed = sound.state.typed

    -- a value comes to its owner
    value_stands : (o : ℕ) (v : Value) (z : ℕ) → node_of o ≡ b → request_of m₁ o ≡ Some z → Awaiting o v
        → MachineStandsFor g l (record m₁ { nodes = set_at m₁.nodes b (record x { slots = settled g z v x.slots }); links = m₁.links }) c (free o d₁)
    value_stands o v z own r a = by (held d o) refl f.stands.state
      where
        f : Found g l m₁ c d₁ st₁ o a.state
        f = found g l m₁ c d₁ st₁ o a.state a.object

        number : f.slot.request ≡ Some z
        number = sym (ap request_in f.here) ∙ r

        one : (j : ℕ) (u : Slot S) → slice_get x.slots j ≡ Some u → u.request ≡ Some z → j ≡ slot_of o
        one j u h i =
            let small : j < 65536 = let s = slice_get_within x.slots j u h in let t = st₁.few b x node in omega (arith, s, t) in
            let at : slot_at m₁ (name_at b j) ≡ Some u = at_node m₁ b x node (name_at b j) (name_node b j small) ∙ ap (slice_get x.slots) (name_slot b j small) ∙ h in
            let same : name_at b j ≡ o = st₁.distinct (name_at b j) o z (name_node b j small ∙ sym own) (ap request_in at ∙ i) r in
            sym (name_slot b j small) ∙ ap slot_of same

        set : settled g z v x.slots ≡ set_at x.slots (slot_of o) (given_to g z v f.slot)
        set = settled_is g z v x.slots (slot_of o) f.slot (sym (at_node m₁ b x node o own) ∙ f.here) number one

        finish : g.given f.slot.state v ≡ a.state → MachineStandsFor g l (record m₁ { nodes = set_at m₁.nodes b (record x { slots = settled g z v x.slots }); links = m₁.links }) c (free o d₁)
        finish h = subst (λ ss. MachineStandsFor g l (record m₁ { nodes = set_at m₁.nodes b (record x { slots = ss }); links = m₁.links }) c (free o d₁)) (sym set)
            (settle_stands g l m₁ c d₁ st₁ b x node o own f.slot f.here z v (a.object ∙ ap Some (sym h)) a.none (no_caller g W req c typed o a.state a.object a.no_wait))

        by : (h : Option Holding) → held d o ≡ h → SlotStandsFor g o f.slot a.state h
            → MachineStandsFor g l (record m₁ { nodes = set_at m₁.nodes b (record x { slots = settled g z v x.slots }); links = m₁.links }) c (free o d₁)
        by None i k = absurd (let q : None ≡ Some (D.Due v) = sym i ∙ a.held in cc)
        by (Some D.Posted) i k = absurd (let q : Some D.Posted ≡ Some (D.Due v) = sym i ∙ a.held in cc)
        by (Some (D.Due u)) i (Due w q r s) =
            let t : Some (D.Due u) ≡ Some (D.Due v) = sym i ∙ a.held in
            let same : u ≡ v = cc in
            finish (subst (λ y. g.given f.slot.state y ≡ a.state) same s)

    -- an object is made for a creator elsewhere
    module _ (num : Option ℕ) (o goal class : ℕ) (number : IsNumberOf m₁ num (Some o)) (a : Creator o goal class) where
      count : length x.slots ≡ object_count c b
      count = objects_count g W law req l m₁ c d₁ st₁ typed b x node

      small : length x.slots < 65536
      small = let h = (sound.limits b).0 in omega (arith, h, count, few)

      abbrev new : ℕ
      new = name_at b (length x.slots)

      new_is : next_name c b ≡ new
      new_is = ap (λ i. b * 65536 + i) (sym count)

      made : (z : S) × (g.made class ≡ Some z)
      made = law.can_make c o a.state class typed a.object a.kind

      unused : object_of c new ≡ None
      unused = (is_new g l m₁ c d₁ st₁ b x node W req small).object

      abbrev v : Value
      v = V.Ref new

      abbrev c₁ : Config S
      c₁ = put_object c o (g.given a.state v)

      abbrev c₂ : Config S
      c₂ = put_object c₁ new made.0

      abbrev d₂ : Delay
      d₂ = hold o (D.Due v) d₁

      f : Found g l m₁ c d₁ st₁ o a.state
      f = found g l m₁ c d₁ st₁ o a.state a.object

      sane : g.fault a.state ≡ None
      sane = by (g.fault a.state) refl
        where
          by : (z : Option Error) → g.fault a.state ≡ z → g.fault a.state ≡ None
          by None i = i
          by (Some e) i = absurd (let z : K.New class ≡ K.Fault e = sym a.kind ∙ law.fault_kind c o a.state e typed a.object i in cc)

      callers : g.callers (g.given a.state v) ≡ g.callers a.state
      callers = req.given_callers o a.state v (rw a.kind refl)

      due : SlotStandsFor g o f.slot (g.given a.state v) (Some (D.Due v))
      due = by (held d o) refl f.stands.state
        where
          by : (h : Option Holding) → held d o ≡ h → SlotStandsFor g o f.slot a.state h → SlotStandsFor g o f.slot (g.given a.state v) (Some (D.Due v))
          by None i z = absurd (let q : None ≡ Some D.Posted = sym i ∙ a.held in cc)
          by (Some (D.Due u)) i z = absurd (let q : Some (D.Due u) ≡ Some D.Posted = sym i ∙ a.held in cc)
          by (Some D.Posted) i (Posted r s) = Due v r (rw (s, a.kind) refl) (ap (λ y. g.given y v) s)

      maker : MachineStandsFor g l m₁ c₁ d₂
      maker = object_stands g l m₁ c d₁ st₁ o (g.given a.state v) (put nat_cmp o (D.Due v) d₁.holding) (λ q e. find_put_other q o (D.Due v) d₁.holding e) (
          subst (λ s. Spot g m₁ o s (Some (g.given a.state v)) (find nat_cmp o (put nat_cmp o (D.Due v) d₁.holding)) (arrived_at d₁ o)) (sym f.here) (
          subst (λ h. Spot g m₁ o (Some f.slot) (Some (g.given a.state v)) h (arrived_at d₁ o)) (sym (find_put_same o (D.Due v) d₁.holding)) (
            record { state = due; mailbox = f.stands.mailbox },
            f.mailbox,
            subst (AreNumbersOf m₁ f.slot.callers) (sym callers) f.callers,
          )))

      old : (q : ℕ) (z : S) → object_of c q ≡ Some z → In new (g.callers z) → ⊥
      old = no_object g l m₁ c d₁ st₁ b x node W req small typed new unused

      nobody : (q : ℕ) (z : S) → object_of c₁ q ≡ Some z → In new (g.callers z) → ⊥
      nobody q z h i = by (decide q o)
        where
          by : (q ≡ o) ⊎ (q ≢ o) → ⊥
          by (inl e) =
              let same : g.given a.state v ≡ z = same_some (sym (ap (object_of c₁) e ∙ find_put_same o (g.given a.state v) c.objects) ∙ h) in
              old o a.state a.object (subst (In new) (ap g.callers (sym same) ∙ callers) i)
          by (inr e) = old q z (sym (find_put_other q o (g.given a.state v) c.objects e) ∙ h) i

      owns_none : entries d₁ new ≡ []
      owns_none = none_moved (subst (λ (z : Option S). OwnedAt g new z (held d new) (entries d new)) unused (sound.state.owned new)).1
        where
          none_moved : entries d new ≡ [] → entries d₁ new ≡ []
          none_moved h = moved_nothing new h

      abbrev m₂ : Machine S
      m₂ = record m₁ { nodes = set_at m₁.nodes b (add_slot x made.0); links = m₁.links }

      added : MachineStandsFor g l m₂ c₂ d₂
      added = add_stands g l m₁ c₁ d₂ maker b x node W req small made.0 nobody owns_none (req.made_callers class made.0 made.1)

      apart : o ≢ new
      apart e = let i = a.object in let j : object_of c o ≡ None = ap (object_of c) e ∙ unused in cc

      kept : request_of m₂ o ≡ request_of m₁ o
      kept = ap request_in (add_there g l m₁ c₁ d₂ maker b x node W req small made.0 o apart)

      abbrev reply : NumberedPacket
      reply = record { number = num; packet = D.Created o new }

      made_row : Row g W l m₁ b (created_for b x num o class (g.made class)) (received g l c d₁ b (D.Create o b class))
      made_row = subst (λ z. Row g W l m₁ b (created_for b x num o class (g.made class)) (shows (L.New o (next_name c b) (id class)) 1
          (hold o (D.Due (V.Ref (next_name c b))) (post l b (node_of o) (D.Created o (next_name c b)) d₁)) z)) (sym moved)
          (rw (made.1, new_is) (refl, law.kept c c₂ (L.New o new (id class)) typed moved', post_stands g l m₂ c₂ d₂ added (b, next l b (node_of o)) reply (record { number = (number.0, kept ∙ number.1); names = tt })))
        where
          moved' : move g c (L.New o new (id class)) ≡ Some c₂
          moved' = rw (runs g c o a.state a.object sane, a.kind, equals class, unused, made.1) refl

          moved : move g c (L.New o (next_name c b) (id class)) ≡ Some c₂
          moved = ap (λ z. move g c (L.New o z (id class))) new_is ∙ moved'

    -- a packet at its goal
    pub receipt_row : (num : Option ℕ) (p : Packet) → PacketFits m₁ (record { number = num; packet = p }) → first_of (on_link d.links k) ≡ Some p → goal_node p ≡ b
        → Row g W l m₁ b (receipt g b x num p) (received g l c d₁ b p)
    receipt_row num (D.Create o goal class) fit head at = made_row num o goal class fit.number (creator o goal class head)
    receipt_row num (D.Created o name) fit head at =
        let r : request_of m₁ o ≡ Some fit.number.0.0 = fit.number.1 ∙ fit.number.0.1 in
        let h = value_stands o (V.Ref name) fit.number.0.0 at r (awaiting (D.Created o name) o (V.Ref name) (inr (name, refl, refl)) (equals o) head) in
        (refl, typed, subst (λ z. MachineStandsFor g l (record m₁ { nodes = set_at m₁.nodes b (settle_number g (V.Ref name) z x); links = m₁.links }) c (free o d₁)) (sym fit.number.0.1) h)
    receipt_row num (D.Result o v) fit head at =
        let r : request_of m₁ o ≡ Some fit.number.0.0 = fit.number.1 ∙ fit.number.0.1 in
        let h = value_stands o v fit.number.0.0 at r (awaiting (D.Result o v) o v (inl refl) (equals o) head) in
        (refl, typed, subst (λ z. MachineStandsFor g l (record m₁ { nodes = set_at m₁.nodes b (settle_number g v z x); links = m₁.links }) c (free o d₁)) (sym fit.number.0.1) h)
    receipt_row num (D.Request o r k args) fit head at =
        (refl, typed, deliver_stands g l m₁ c d₁ st₁ b x node r at fit.names (record { number = num; message = record { sender = o; is_call = true; method = k; args = args } }) fit.number)
    receipt_row num (D.Async o r k args) fit head at =
        (refl, typed, deliver_stands g l m₁ c d₁ st₁ b x node r at fit.names (record { number = None; message = record { sender = o; is_call = false; method = k; args = args } }) refl)

    -- what the packet meets that the node is given

    callers_same : (q : ℕ) (s : Slot S) (y : S) (h : Option Holding) → SlotStandsFor g q s y h → g.callers y ≡ g.callers s.state
    callers_same q s y None (Free u v) = ap g.callers (sym v)
    callers_same q s y None (Served a i args u v w) = ap g.callers (sym w) ∙ req.waiting_callers q s.state a i args v
    callers_same q s y (Some _) (Posted u v) = ap g.callers (sym v)
    callers_same q s y (Some _) (Due v u i w) = ap g.callers (sym w) ∙ req.given_callers q s.state v i

    record Unheard (o : ℕ) (s : Slot S) : Type 0 where
      mailbox : Each (λ a. caller_of a.message ≢ Some o) s.mailbox
      callers : In o (g.callers s.state) → ⊥

    awaited : (num : Option ℕ) (o : ℕ) (v : Value) → node_of o ≡ b → IsNumberOf m₁ num (Some o) → Awaiting o v → IsAwaited g x num o
    awaited num o v own number a = record {
      slot = f.slot;
      there = sym (at_node m₁ b x node o own) ∙ f.here;
      out = number.0.0;
      number_is = number.0.1;
      request = sym (ap request_in f.here) ∙ number.1 ∙ number.0.1;
      no_call = λ i s e. (slot i s e).mailbox;
      no_caller = λ i s e z. (slot i s e).callers z;
    }
      where
        f : Found g l m₁ c d₁ st₁ o a.state
        f = found g l m₁ c d₁ st₁ o a.state a.object

        none : called_of o d.arrived ≡ []
        none = (no_part (sent_of o d₁.links) (called_of o d.arrived) a.none).1

        slot : (i : ℕ) (s : Slot S) → slice_get x.slots i ≡ Some s → Unheard o s
        slot i s e = by (object_of c q) refl (subst (λ z. AtName g q z (object_of c q) (held d₁ q) (arrived_at d₁ q)) at_q (st₁.named q))
          where
            small : i < 65536
            small = let u = slice_get_within x.slots i s e in let w = st₁.few b x node in omega (arith, u, w)

            q : ℕ
            q = name_at b i

            at_q : slot_at m₁ q ≡ Some s
            at_q = at_node m₁ b x node q (name_node b i small) ∙ ap (slice_get x.slots) (name_slot b i small) ∙ e

            by : (y : Option S) → object_of c q ≡ y → AtName g q (Some s) y (held d₁ q) (arrived_at d₁ q) → Unheard o s
            by None h z = absurd z
            by (Some y) h z = record {
              mailbox = of_messages (λ w. caller_of w ≢ Some o) s.mailbox (subst (Each (λ w. caller_of w ≢ Some o)) (sym z.mailbox) (none_called o q d.arrived none));
              callers = λ w. no_caller g W req c typed o a.state a.object a.no_wait q y h (subst (In o) (sym (callers_same q s y (held d₁ q) z.state)) w);
            }

    -- who sends to another node is on another node
    other_node : (o r : ℕ) (key : Pair) → Has (path l (node_of o) (node_of r)) key → node_of o ≢ node_of r
    other_node o r key h e = none (l.width * l.height) (node_of o) (node_of r) e key h
      where
        none : (steps a z : ℕ) → a ≡ z → (key : Pair) → Has (walk (next l) steps a z) key → ⊥
        none zero a z e key h = h
        none (suc steps) a z e key h = let t : (a == z) ≡ true = rw e (equals z) in rw t at h

    pub meets : (num : Option ℕ) (p : Packet) → PacketFits m₁ (record { number = num; packet = p }) → first_of (on_link d.links k) ≡ Some p → goal_node p ≡ b → Meets g b x num p
    meets num (D.Create o goal class) fit head at =
        let a = creator o goal class head in
        let y = law.can_make c o a.state class typed a.object a.kind in
        (at, (λ e. a.away (at ∙ sym e)), req.made_class class y.0 y.1)
    meets num (D.Created o name) fit head at = (at, awaited num o (V.Ref name) at fit.number (awaiting (D.Created o name) o (V.Ref name) (inr (name, refl, refl)) (equals o) head))
    meets num (D.Result o v) fit head at = (at, awaited num o v at fit.number (awaiting (D.Result o v) o v (inl refl) (equals o) head))
    meets num (D.Request o r i args) fit head at =
        let p : IsPlaced l c (k, D.Request o r i args) = each_head (IsPlaced l c) k d.links (D.Request o r i args) head sound.state.packets in
        (at, (λ e. other_node o r k p.on_path (e ∙ sym at)), (fit.names.0, sym (at_node m₁ b x node r at) ∙ fit.names.1))
    meets num (D.Async o r i args) fit head at = (at, (fit.names.0, sym (at_node m₁ b x node r at) ∙ fit.names.1))
