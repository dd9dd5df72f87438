-- The line of each event is true of the configuration before it. A value that is due after it was due before, is returned by it, or names an object.
use Rattle.std.proofs.Common.{◌≡◌, ◌≢◌, ◌⊎◌, inl, inr, refl, sym, ap, subst, ◌∙◌, ℕ, zero, suc, ◌+◌, ◌*◌, ◌%◌, ◌<◌, ◌≤◌, ◌==◌, List, [], ◌∷◌, ◌++◌, length, Option, Some, None, is_some, Bool, true, false, if◌then◌else◌, slice_get, arith}
use Rattle.std.specs.Prelude.{◌&&◌, nat_lt, flat_map}
use Rattle.std.specs.FinMap.{put}
use Rattle.run_types.specs.declared.types.Value.{Value}
use Rattle.run_types.specs.declared.types.Value.TheVariants as V
use Rattle.run_types.specs.declared.types.Label.{Label}
use Rattle.run_types.specs.declared.types.Label.TheVariants as L
use Rattle.run_types.specs.declared.types.What.{What}
use Rattle.run_types.specs.declared.types.What.TheVariants as T
use Rattle.run_types.specs.declared.types.FullKind.TheVariants as F
use Rattle.run_types.specs.declared.types.Event.{Event}
use Rattle.run_types.specs.declared.types.Event.TheVariants as Ev
use Rattle.run_types.specs.declared.types.Place.{Place}
use Rattle.run_types.specs.declared.types.Place.TheVariants as Pl
use Rattle.run_types.specs.declared.types.Placement.{Placement}
use Rattle.run_types.proofs.Laws.{equal, equals, decide, same_some, find_put_same, find_put_other, find_without_same, find_without_other}
use Rattle.mesh_semantics.proofs.Laws.{each_head, moved_own, moved_some, moved, turn_is, Fit}
use Rattle.run_types.specs.Tables.{Pair, pair_cmp, Each}
use Rattle.mesh_semantics.specs.Kind as K
use Rattle.mesh_semantics.specs.Kind.{Kind, Alternative}
use Rattle.mesh_semantics.specs.Language.{Language}
use Rattle.mesh_semantics.specs.Config.{Config, object_of, messages_of}
use Rattle.mesh_semantics.specs.Moves.{move}
use Rattle.run_types.specs.Paths.{path, along, on_link, move_head, under}
use Rattle.mesh_semantics.specs.Wire.{Wire, window, Coming, Empty, Stale, Next, coming, take, wire_act}
use Rattle.mesh_semantics.specs.Wired.{AreWiresOf, KeepsWires}
use Rattle.mesh_semantics.specs.Delay as D
use Rattle.mesh_semantics.specs.Delay.{Packet, Arrival, Holding, Wires, Delay, wire_at, arrived_at, arrive, held, hold, free, post, take_arrival, count_made, made_by, stepped_last, cell_count}
use Rattle.run_types.specs.ObjectNames.{node_of}
use Rattle.mesh_semantics.specs.Act.{id, next_name, sent, Acted, Acts, Full, Nothing, plain_act, on_wires, wire_move, wire_turn, act_over, act, within, shows, labelled, object_count, frame_count, local_steps, step_count, greatest, local_turn, class_place, goal_by, goal_of, create_turn, first_arrival, accept_turn, chosen_turn, is_possible, choice_turn, object_turn, node_turn, turn_of, first_of, goal_node, received, passed, link_move}
use Rattle.mesh_semantics.specs.Sound.{Entry, Sent, entries, Owns, OwnedAt, Letter, letter, letter_if, letters, letters_in, notes, Has, IsThere, IsPlaced, IsSound}
use Rattle.mesh_semantics.specs.Lawful.{Lawful}
use Rattle.mesh_of_code.proofs.LineEvidence.{HasSender, HasMessage, IsAtCall, IsWireNumber, HasEvidence}
use Rattle.mesh_of_code.proofs.WireNumbers.{HasNumber, TellsNumber, numbers_of, stale_number}

-- who is due a value has one of this property
abbrev pub DueHas : (Value → Type 0) → Delay → Type 0
DueHas P d = (o : ℕ) (v : Value) → held d o ≡ Some (D.Due v) → P v

greatest_most : (test : ℕ → Bool) (n : ℕ) → greatest test n ≤ n
greatest_most test zero = omega arith
greatest_most test (suc n) = by (test (suc n)) (greatest_most test n)
  where
    by : (b : Bool) → greatest test n ≤ n → (if b then suc n else greatest test n) ≤ suc n
    by true h = omega arith
    by false h = omega (arith, h)

module _ (P : Value → Type 0) where
  due_posted : (o : ℕ) (d : Delay) → DueHas P d → DueHas P (hold o D.Posted d)
  due_posted o d h q v e = by (decide q o)
    where
      by : (q ≡ o) ⊎ (q ≢ o) → P v
      by (inl i) = absurd (let z : Some D.Posted ≡ Some (D.Due v) = sym (ap (held (hold o D.Posted d)) i ∙ find_put_same o D.Posted d.holding) ∙ e in cc)
      by (inr n) = h q v (sym (find_put_other q o D.Posted d.holding n) ∙ e)

  due_due : (o : ℕ) (w : Value) (d : Delay) → P w → DueHas P d → DueHas P (hold o (D.Due w) d)
  due_due o w d p h q v e = by (decide q o)
    where
      value_of : Option Holding → Value
      value_of (Some (D.Due x)) = x
      value_of _ = V.Nil

      by : (q ≡ o) ⊎ (q ≢ o) → P v
      by (inl i) = subst P (let z : Some (D.Due w) ≡ Some (D.Due v) = sym (ap (held (hold o (D.Due w) d)) i ∙ find_put_same o (D.Due w) d.holding) ∙ e in same z) p
        where
          same : Some (D.Due w) ≡ Some (D.Due v) → w ≡ v
          same z = cc
      by (inr n) = h q v (sym (find_put_other q o (D.Due w) d.holding n) ∙ e)

  due_free : (o : ℕ) (d : Delay) → DueHas P d → DueHas P (free o d)
  due_free o d h q v e = by (decide q o)
    where
      by : (q ≡ o) ⊎ (q ≢ o) → P v
      by (inl i) = absurd (let z : None ≡ Some (D.Due v) = sym (ap (held (free o d)) i ∙ find_without_same o d.holding) ∙ e in cc)
      by (inr n) = h q v (sym (find_without_other q o d.holding n) ∙ e)

  due_if : (b : Bool) (d e : Delay) → DueHas P d → DueHas P e → DueHas P (if b then d else e)
  due_if true d e h k = h
  due_if false d e h k = k

-- one of the letters' messages is on a method
note_before : (xs ys : List Letter) (m : ℕ) → HasMessage (notes xs) m → HasMessage (notes (xs ++ ys)) m
note_before [] ys m h = absurd h
note_before (x ∷ xs) ys m h = by x.is_call refl (note_before xs ys m)
  where
    by : (b : Bool) → x.is_call ≡ b → (HasMessage (notes xs) m → HasMessage (notes (xs ++ ys)) m) → HasMessage (notes ((x ∷ xs) ++ ys)) m
    by true e more = rw e (more (rw e at h))
    by false e more = let t : HasMessage (x.message ∷ notes xs) m = rw e at h in rw e (on t)
      where
        on : HasMessage (x.message ∷ notes xs) m → HasMessage (x.message ∷ notes (xs ++ ys)) m
        on (inl i) = inl i
        on (inr i) = inr (more i)

note_behind : (xs ys : List Letter) (m : ℕ) → HasMessage (notes ys) m → HasMessage (notes (xs ++ ys)) m
note_behind [] ys m h = h
note_behind (x ∷ xs) ys m h = by x.is_call refl (note_behind xs ys m h)
  where
    by : (b : Bool) → x.is_call ≡ b → HasMessage (notes (xs ++ ys)) m → HasMessage (notes ((x ∷ xs) ++ ys)) m
    by true e k = rw e k
    by false e k = let t : HasMessage (x.message ∷ notes (xs ++ ys)) m = inr k in rw e t

note_on_link : (f : Packet → List Letter) (ls : List (Pair × Packet)) (k : Pair) (ks : List Pair) (m : ℕ) → Has ks k → HasMessage (notes (flat_map f (on_link ls k))) m → HasMessage (notes (along f ls ks)) m
note_on_link f ls k [] m h a = absurd h
note_on_link f ls k (j ∷ ks) m (inl e) a =
    note_behind (along f ls ks) (flat_map f (on_link ls j)) m (subst (λ (i : Pair). HasMessage (notes (flat_map f (on_link ls i))) m) (sym e) a)
note_on_link f ls k (j ∷ ks) m (inr i) a = note_before (along f ls ks) (flat_map f (on_link ls j)) m (note_on_link f ls k ks m i a)

note_at_head : (f : Packet → List Letter) (xs : List Packet) (x : Packet) (m : ℕ) → first_of xs ≡ Some x → HasMessage (notes (f x)) m → HasMessage (notes (flat_map f xs)) m
note_at_head f [] x m e a = absurd (cc)
note_at_head f (y ∷ xs) x m e a = note_before (f y) (flat_map f xs) m (subst (λ (z : Packet). HasMessage (notes (f z)) m) (sym (same_some e)) a)

-- an arrived message has its sender
sender_there : {S : Type 0} (c : Config S) (o : ℕ) (names : List ℕ) (es : List (ℕ × Arrival)) (a : Arrival) → Each (λ (e : ℕ × Arrival). IsThere c e.1.sender) es
    → first_arrival names (under (λ r. r == o) es) ≡ Some a → IsThere c a.sender
sender_there c o names [] a h e = absurd (cc)
sender_there c o names (x ∷ es) a h e = by (x.0 == o) refl (sender_there c o names es a h.1)
  where
    on : (b : Bool) → (first_arrival names (under (λ r. r == o) es) ≡ Some a → IsThere c a.sender) → (if b then Some x.1 else first_arrival names (under (λ r. r == o) es)) ≡ Some a → IsThere c a.sender
    on true rest i = subst (λ (y : Arrival). IsThere c y.sender) (same_some i) h.0
    on false rest i = rest i

    by : (b : Bool) → (x.0 == o) ≡ b → (first_arrival names (under (λ r. r == o) es) ≡ Some a → IsThere c a.sender) → IsThere c a.sender
    by true i rest = on _ rest (rw i at e)
    by false i rest = rest (rw i at e)

module _ {S : Type 0} (g : Language S) (W : Config S → Type 0) (law : Lawful g W) (l : Placement) (fit : Fit l) (q : ℕ) (P : Value → Type 0)
    (refs : (n : ℕ) → n < l.width * l.height * 65536 → P (V.Ref n)) (returned : (c : Config S) (d : Delay) (e : Config S) (b o : ℕ) (v : Value) → IsSound g W l c d → move g c (L.Return b o v) ≡ Some e → P v) where
  module _ (c : Config S) (d : Delay) (s : IsSound g W l c d) (due : DueHas P d) where
    -- the line tells it, and what is due has the property; a limit is that of a node of the mesh
    abbrev pub IsBackedLine : Acted S → Type 0
    IsBackedLine (Acts what e f) = HasEvidence g l q c d what × DueHas P f
    IsBackedLine (Full kind n) = n < l.width * l.height
    IsBackedLine Nothing = Unit {0}

    either_told : (b : Bool) (x y : Acted S) → IsBackedLine x → IsBackedLine y → IsBackedLine (if b then x else y)
    either_told true x y h k = h
    either_told false x y h k = k

    labelled_told : (lab : Label) (f : Delay) → HasSender c lab → ((e : Config S) → move g c lab ≡ Some e → DueHas P f) → IsBackedLine (labelled g c lab f)
    labelled_told lab f h k = by (move g c lab) refl
      where
        by : (z : Option (Config S)) → move g c lab ≡ z → IsBackedLine (shows lab 1 f z)
        by None e = tt
        by (Some x) e = (inl (refl, h, (x, e)), k x e)

    within_told : (n : ℕ) (a : Acted S) → n < l.width * l.height → IsBackedLine a → IsBackedLine (within g l n a)
    within_told n (Full k m) t h = h
    within_told n Nothing t h = tt
    within_told n (Acts what e f) node h = by (nat_lt l.objects (object_count e n)) (nat_lt l.frames (frame_count g e n)) (nat_lt l.cells (cell_count f n))
      where
        by : (a b t : Bool) → IsBackedLine (if a then Full F.Heap n else (if b then Full F.Frames n else (if t then Full F.Cells n else Acts what e f)))
        by true b t = node
        by false true t = node
        by false false true = node
        by false false false = h

    local_told : (n o : ℕ) (f : Delay) → n < l.width * l.height → IsThere c o → DueHas P f → (k : ℕ) → k ≤ q → (z : Option (Config S)) → IsBackedLine (local_turn n o f k z)
    local_told n o f node t h zero m z = node
    local_told n o f node t h (suc k) m None = tt
    local_told n o f node t h (suc k) m (Some e) = (inr (t, (omega arith), m), h)

    accept_told : (f : Delay) (o : ℕ) (names : List ℕ) → DueHas P f → (z : Option Arrival) → ((a : Arrival) → z ≡ Some a → IsThere c a.sender) → IsBackedLine (accept_turn g c f o names z)
    accept_told f o names h None t = tt
    accept_told f o names h (Some a) t =
        either_told a.is_call (labelled g c (L.Answer o a.sender (id a.method) a.args) (free a.sender (take_arrival o names f)))
        (labelled g c (L.Take o a.sender (id a.method) a.args) (take_arrival o names f))
        (labelled_told (L.Answer o a.sender (id a.method) a.args) (free a.sender (take_arrival o names f)) tt (λ e i. due_free P a.sender (take_arrival o names f) h))
        (labelled_told (L.Take o a.sender (id a.method) a.args) (take_arrival o names f) (t a refl) (λ e i. h))

    chosen_told : (n o i : ℕ) (names : Option (List ℕ)) → IsBackedLine (chosen_turn g c (stepped_last n o d) o i names)
    chosen_told n o i None = labelled_told (L.Pick o i) (stepped_last n o d) tt (λ e j. due)
    chosen_told n o i (Some names) =
        accept_told (stepped_last n o d) o names due (first_arrival names (arrived_at (stepped_last n o d) o)) (λ a e. sender_there c o names d.arrived a s.state.arrivals e)

    choice_told : (n o i : ℕ) (alts : List Alternative) → IsBackedLine (choice_turn g c (stepped_last n o d) o i alts)
    choice_told n o i [] = tt
    choice_told n o i (a ∷ alts) =
        either_told (is_possible (arrived_at (stepped_last n o d) o) a) (chosen_turn g c (stepped_last n o d) o i a.names) (choice_turn g c (stepped_last n o d) o (i + 1) alts)
        (chosen_told n o i a.names) (choice_told n o (i + 1) alts)

    goal_there : (f : Delay) (n class : ℕ) (p : Option Place) → slice_get l.places (class_place g.classes class) ≡ p → n < l.width * l.height → goal_by l f n class p < l.width * l.height
    goal_there f n class None e h = h
    goal_there f n class (Some (Pl.At k)) e h = fit.places (class_place g.classes class) k e
    goal_there f n class (Some Pl.Same) e h = h
    goal_there f n class (Some Pl.Spread) e h = mod_below (n + made_by f n class) (l.width * l.height) fit.nodes
      where
        mod_below : (a b : ℕ) → 0 < b → a % b < b
        mod_below a b h = omega (arith, h)

    create_told : (n o class goal : ℕ) (x : S) → object_of c o ≡ Some x → g.kind o x ≡ K.New class → goal < l.width * l.height
        → IsBackedLine (create_turn g l c (stepped_last n o d) n o class goal)
    create_told n o class goal x h k t =
        either_told (goal == n) (labelled g c (L.New o (next_name c n) (id class)) (count_made n class (stepped_last n o d)))
        (Acts (T.PostCreate o (id class) goal) c (hold o D.Posted (post l n goal (D.Create o goal class) (count_made n class (stepped_last n o d)))))
        (labelled_told (L.New o (next_name c n) (id class)) (count_made n class (stepped_last n o d)) tt (λ e i. due))
        (((x, h, k), t), due_posted P o (post l n goal (D.Create o goal class) (count_made n class (stepped_last n o d))) due)

    object_told : (n o : ℕ) (x : S) → object_of c o ≡ Some x → n < l.width * l.height → (k : Kind) → g.kind o x ≡ k → IsBackedLine (object_turn g l q c (stepped_last n o d) n o k)
    object_told n o x h m K.Local e =
        local_told n o (stepped_last n o d) m (x, h) due (step_count g l q n o c) (greatest_most (λ k. is_some (local_steps g l n o k c)) q) (local_steps g l n o (step_count g l q n o c) c)
    object_told n o x h m (K.New class) e =
        create_told n o class (goal_of g l (stepped_last n o d) n class) x h e (goal_there (stepped_last n o d) n class (slice_get l.places (class_place g.classes class)) refl m)
    object_told n o x h m (K.Send b j args) e = ((x, h, e), due_posted P o (sent l n o b true j args (D.Request o b j args) (stepped_last n o d)) (sent_due b j args (node_of b == n)))
      where
        sent_due : (b j : ℕ) (args : List Value) (t : Bool) → DueHas P (if t then arrive b (record { sender = o; is_call = true; method = j; args = args }) (stepped_last n o d) else post l n (node_of b) (D.Request o b j args) (stepped_last n o d))
        sent_due b j args true = due
        sent_due b j args false = due
    object_told n o x h m (K.Async b j args) e =
        labelled_told (L.Send o b (id j) args) (sent l n o b false j args (D.Async o b j args) (stepped_last n o d)) tt (λ y i. sent_due (node_of b == n))
      where
        sent_due : (t : Bool) → DueHas P (if t then arrive b (record { sender = o; is_call = false; method = j; args = args }) (stepped_last n o d) else post l n (node_of b) (D.Async o b j args) (stepped_last n o d))
        sent_due true = due
        sent_due false = due
    object_told n o x h m (K.Select alts) e = choice_told n o 1 alts
    object_told n o x h m (K.Return k v) e =
        labelled_told (L.Return o k v) (if node_of k == n then free k (stepped_last n o d) else hold k (D.Due v) (post l n (node_of k) (D.Result k v) (stepped_last n o d))) tt
        (λ y i. due_if P (node_of k == n) (free k (stepped_last n o d)) (hold k (D.Due v) (post l n (node_of k) (D.Result k v) (stepped_last n o d)))
        (due_free P k (stepped_last n o d) due)
        (due_due P k v (post l n (node_of k) (D.Result k v) (stepped_last n o d)) (returned c d y o k v s i) due))
    object_told n o x h m (K.Write item) e = labelled_told (L.Write o item) (stepped_last n o d) tt (λ y i. due)
    object_told n o x h m (K.Fault error) e = labelled_told (L.Fault o error) (stepped_last n o d) tt (λ y i. due)
    object_told n o x h m _ e = tt

    -- a call on a link is at hand in its caller
    request_told : (k : Pair) (o r m : ℕ) (args : List Value) → first_of (on_link d.links k) ≡ Some (D.Request o r m args) → IsAtCall g c o r m args
    request_told k o r m args head =
        at (held d o) (g.kind o placed.sender.0) (entries d o) refl
        (moved_some k (D.Request o r m args) d head o (equals o))
        (λ e i. (moved_own k (D.Request o r m args) d head o e (equals o) i).0)
        (subst (λ (z : Option S). OwnedAt g o z (held d o) (entries d o)) placed.sender.1 (s.state.owned o)).0
      where
        placed : IsPlaced l c (k, D.Request o r m args)
        placed = each_head (IsPlaced l c) k d.links (D.Request o r m args) head s.state.packets

        at : (t : Option Holding) (j : Kind) (es : List Entry) → g.kind o placed.sender.0 ≡ j → es ≢ [] → ((e : Entry) → es ≡ e ∷ [] → e ≡ Sent (D.Request o r m args)) → Owns o t j es → IsAtCall g c o r m args
        at None j es e some only h = absurd (some h)
        at (Some D.Posted) (K.New class) es e some only h = absurd (let z = only (Sent (D.Create o h.0 class)) h.2 in cc)
        at (Some D.Posted) (K.Send b n vs) es e some only (inl i) =
            let z = only (Sent (D.Request o b n vs)) i in (placed.sender.0, placed.sender.1, e ∙ same z)
          where
            same : Sent (D.Request o b n vs) ≡ Sent (D.Request o r m args) → K.Send b n vs ≡ K.Send r m args
            same z = cc
        at (Some D.Posted) (K.Send b n vs) es e some only (inr i) = absurd (let z = only _ i in cc)
        at (Some D.Posted) _ es e some only h = absurd h
        at (Some (D.Due v)) j es e some only h = absurd (elim h.1 as (λ u. ⊥) [ inl i ↦ (let z = only _ i in cc) | inr i ↦ (let z = only _ i.2 in cc) ])

    -- a message on a link is one of its pair's
    async_told : (k : Pair) (o r m : ℕ) (args : List Value) → first_of (on_link d.links k) ≡ Some (D.Async o r m args) → IsThere c o × HasMessage (messages_of c o r) m
    async_told k o r m args head = (placed.sender, subst (λ ms. HasMessage ms m) (sym (s.state.lists o r)) all)
      where
        placed : IsPlaced l c (k, D.Async o r m args)
        placed = each_head (IsPlaced l c) k d.links (D.Async o r m args) head s.state.packets

        both : (o == o && r == r) ≡ true
        both = rw (equals o, equals r) refl

        here : HasMessage (notes (letter o r (D.Async o r m args))) m
        here = subst (λ t. HasMessage (notes (letter_if t false m args)) m) (sym both) (inl refl)

        all : HasMessage (notes (letters l d o r)) m
        all = note_behind (letters_in o (arrived_at d r)) (along (letter o r) d.links (path l (node_of o) (node_of r))) m
            (note_on_link (letter o r) d.links k (path l (node_of o) (node_of r)) m placed.on_path
            (note_at_head (letter o r) (on_link d.links k) (D.Async o r m args) m head here))

    -- the value of a packet is due to its owner
    created_told : (k : Pair) (o n : ℕ) → first_of (on_link d.links k) ≡ Some (D.Created o n) → IsThere c o × ((v : Value) × (held d o ≡ Some (D.Due v)) × (v ≡ V.Ref n))
    created_told k o n head = (
      placed.sender,
      at (held d o) (g.kind o placed.sender.0) (entries d o) refl
          (moved_some k (D.Created o n) d head o (equals o))
          (λ e i. (moved_own k (D.Created o n) d head o e (equals o) i).0)
          (subst (λ (z : Option S). OwnedAt g o z (held d o) (entries d o)) placed.sender.1 (s.state.owned o)).0,
    )
      where
        placed : IsPlaced l c (k, D.Created o n)
        placed = each_head (IsPlaced l c) k d.links (D.Created o n) head s.state.packets

        name_of : Entry → ℕ
        name_of (Sent (D.Created p i)) = i
        name_of _ = 0

        at : (t : Option Holding) (j : Kind) (es : List Entry) → held d o ≡ t → es ≢ [] → ((e : Entry) → es ≡ e ∷ [] → e ≡ Sent (D.Created o n)) → Owns o t j es
            → (v : Value) × (held d o ≡ Some (D.Due v)) × (v ≡ V.Ref n)
        at None j es e some only h = absurd (some h)
        at (Some D.Posted) (K.New class) es e some only h = absurd (let z = only (Sent (D.Create o h.0 class)) h.2 in cc)
        at (Some D.Posted) (K.Send b i vs) es e some only (inl f) = absurd (let z = only _ f in cc)
        at (Some D.Posted) (K.Send b i vs) es e some only (inr f) = absurd (let z = only _ f in cc)
        at (Some D.Posted) _ es e some only h = absurd h
        at (Some (D.Due v)) j es e some only (w, inl i) = absurd (let z = only _ i in cc)
        at (Some (D.Due v)) j es e some only (w, inr i) = (v, e, i.1 ∙ ap V.Ref (ap name_of (only _ i.2)))

    result_told : (k : Pair) (o : ℕ) (v : Value) → first_of (on_link d.links k) ≡ Some (D.Result o v) → IsThere c o × (held d o ≡ Some (D.Due v))
    result_told k o v head = (
      placed.sender,
      at (held d o) (g.kind o placed.sender.0) (entries d o) refl
          (moved_some k (D.Result o v) d head o (equals o))
          (λ e i. (moved_own k (D.Result o v) d head o e (equals o) i).0)
          (subst (λ (z : Option S). OwnedAt g o z (held d o) (entries d o)) placed.sender.1 (s.state.owned o)).0,
    )
      where
        placed : IsPlaced l c (k, D.Result o v)
        placed = each_head (IsPlaced l c) k d.links (D.Result o v) head s.state.packets

        value_of : Entry → Value
        value_of (Sent (D.Result p i)) = i
        value_of _ = V.Nil

        at : (t : Option Holding) (j : Kind) (es : List Entry) → held d o ≡ t → es ≢ [] → ((e : Entry) → es ≡ e ∷ [] → e ≡ Sent (D.Result o v)) → Owns o t j es → held d o ≡ Some (D.Due v)
        at None j es e some only h = absurd (some h)
        at (Some D.Posted) (K.New class) es e some only h = absurd (let z = only (Sent (D.Create o h.0 class)) h.2 in cc)
        at (Some D.Posted) (K.Send b i vs) es e some only (inl f) = absurd (let z = only _ f in cc)
        at (Some D.Posted) (K.Send b i vs) es e some only (inr f) = absurd (let z = only _ f in cc)
        at (Some D.Posted) _ es e some only h = absurd h
        at (Some (D.Due x)) j es e some only (w, inl i) = e ∙ ap (λ (y : Value). Some (D.Due y)) (ap value_of (only _ i))
        at (Some (D.Due x)) j es e some only (w, inr i) = absurd (let z = only _ i.2 in cc)

    received_told : (a b : ℕ) (x : Packet) → first_of (on_link d.links (a, b)) ≡ Some x → b < l.width * l.height → IsBackedLine (received g l c (moved (a, b) d) b x)
    received_told a b (D.Create o goal class) head h =
        labelled_told (L.New o (next_name c b) (id class))
        (hold o (D.Due (V.Ref (next_name c b))) (post l b (node_of o) (D.Created o (next_name c b)) (moved (a, b) d))) tt
        (λ e i. due_due P o (V.Ref (next_name c b)) (post l b (node_of o) (D.Created o (next_name c b)) (moved (a, b) d))
        (refs (next_name c b) (let few = (s.limits b).0 in let small = fit.objects in omega (arith, few, small, h))) due)
    received_told a b (D.Created o name) head h = (created_told (a, b) o name head, due_free P o (moved (a, b) d) due)
    received_told a b (D.Request o r m args) head h = (inl (args, request_told (a, b) o r m args head), due)
    received_told a b (D.Result o v) head h = (result_told (a, b) o v head, due_free P o (moved (a, b) d) due)
    received_told a b (D.Async o r m args) head h = (inr (async_told (a, b) o r m args head), due)

    link_told : (a b : ℕ) → IsBackedLine (link_move g l c d a b (first_of (on_link d.links (a, b))))
    link_told a b = by (first_of (on_link d.links (a, b))) refl
      where
        goal_in : (x : Packet) → first_of (on_link d.links (a, b)) ≡ Some x → goal_node x < l.width * l.height
        goal_in x e = (each_head (IsPlaced l c) (a, b) d.links x e s.state.packets).goal

        at : (x : Packet) → first_of (on_link d.links (a, b)) ≡ Some x → (t : Bool) → (goal_node x == b) ≡ t
            → IsBackedLine (if t then received g l c (moved (a, b) d) b x else Acts T.Pass c (post l b (goal_node x) x (moved (a, b) d)))
        at x e true i = received_told a b x e (subst (λ n. n < l.width * l.height) (equal (goal_node x) b i) (goal_in x e))
        at x e false i = (tt, due)

        by : (f : Option Packet) → first_of (on_link d.links (a, b)) ≡ f → IsBackedLine (link_move g l c d a b f)
        by None e = (tt, due)
        by (Some x) e = within_told b (passed g l c (moved (a, b) d) b x) (each_head (IsPlaced l c) (a, b) d.links x e s.state.packets).link.to (at x e (goal_node x == b) refl)

    -- what an event's line tells where each link hands out its own head
    plain_told : (e : Event) → IsBackedLine (plain_act g l q c d e)
    plain_told (Ev.Wire w a b) = (tt, due)
    plain_told (Ev.Link a b) = link_told a b
    plain_told (Ev.Turn n) = by (turn_of g c d n) refl
      where
        by : (z : Option (ℕ × S)) → turn_of g c d n ≡ z → IsBackedLine (node_turn g l q c d n z)
        by None i = (tt, due)
        by (Some e) i =
            let at = turn_is g W law l fit c d n e s i in
            let node : node_of e.0 < l.width * l.height = (s.state.names e.0 (e.1, at.acting.found)).0 in
            let here : n < l.width * l.height = subst (λ m. m < l.width * l.height) at.acting.at node in
            within_told n (object_turn g l q c (stepped_last n e.0 d) n e.0 (g.kind e.0 e.1)) here
            (object_told n e.0 e.1 at.acting.found here (g.kind e.0 e.1) refl)

    -- what has entered wires is told as before
    entered_told : (before : List (Pair × Packet)) (ws : Wires) (x : Acted S) → IsBackedLine x → IsBackedLine (on_wires before ws x)
    entered_told before ws (Acts w e f) h = (h.0, h.1)
    entered_told before ws (Full k n) h = h
    entered_told before ws Nothing h = h

    is_number : (ws : Wires) (k : Pair) (n : ℕ) → d.wires ≡ Some ws → n < length (wire_at ws k).handed + window → IsWireNumber d.wires n
    is_number ws k n i h = subst (λ o. IsWireNumber o n) (sym i) (k, h)

    -- a line of a wire
    number_told : (ws : Wires) (k : Pair) (w : What) (vs : Option Wires) → d.wires ≡ Some ws → HasNumber (length (wire_at ws k).handed + window) w
        → IsBackedLine (Acts w c (record d { wires = vs }))
    number_told ws k (T.Frame n) vs i h = (is_number ws k n i h, due)
    number_told ws k (T.Lost n) vs i h = (is_number ws k n i h, due)
    number_told ws k (T.Stale n) vs i h = (is_number ws k n i h, due)
    number_told ws k (T.Acked n) vs i h = (is_number ws k n i h, due)
    number_told ws k (T.Late n) vs i h = (is_number ws k n i h, due)
    number_told ws k T.Idle vs i h = absurd h
    number_told ws k (T.Step lab times) vs i h = absurd h
    number_told ws k (T.PostCreate o m a) vs i h = absurd h
    number_told ws k (T.PostCall o p m args) vs i h = absurd h
    number_told ws k (T.Arrive o p m) vs i h = absurd h
    number_told ws k (T.Created o p) vs i h = absurd h
    number_told ws k (T.Result o v) vs i h = absurd h
    number_told ws k T.Pass vs i h = absurd h

    over_told : (o : Option Wires) → d.wires ≡ o → AreWiresOf o d → (e : Event) → IsBackedLine (act_over g l q c d o e)
    over_told None i wired e = plain_told e
    over_told (Some ws) i wired (Ev.Turn n) = entered_told d.links ws (plain_act g l q c d (Ev.Turn n)) (plain_told (Ev.Turn n))
    over_told (Some ws) i wired (Ev.Link a b) = by (coming (wire_at ws (a, b))) refl
      where
        by : (x : Coming Packet) → coming (wire_at ws (a, b)) ≡ x → IsBackedLine (wire_move g l c d ws a b x)
        by Empty j = (tt, due)
        by (Stale n) j = (is_number ws (a, b) n i (stale_number (wire_at ws (a, b)) (wired (a, b)).facts n j), due)
        by (Next x) j = entered_told (move_head (a, b) d.links) (put pair_cmp (a, b) (take (wire_at ws (a, b))) ws) (plain_act g l q c d (Ev.Link a b)) (plain_told (Ev.Link a b))
    over_told (Some ws) i wired (Ev.Wire w a b) = by (wire_act w (wire_at ws (a, b))) (numbers_of (wire_at ws (a, b)) (wired (a, b)).facts w)
      where
        by : (r : Option (What × Wire Packet)) → TellsNumber (length (wire_at ws (a, b)).handed + window) r → IsBackedLine (wire_turn c d ws (a, b) r)
        by None h = (tt, due)
        by (Some r) h = number_told ws (a, b) r.0 (Some (put pair_cmp (a, b) r.1 ws)) i h

    -- what an event's line tells
    pub act_told : KeepsWires d → (e : Event) → IsBackedLine (act g l q c d e)
    act_told wired e = over_told d.wires refl wired e
