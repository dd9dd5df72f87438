-- The step of an object that makes an object.
use Rattle.std.proofs.Common.{◌≡◌, ◌≢◌, refl, sym, ap, ap₂, subst, ◌∙◌, ℕ, zero, suc, ◌+◌, ◌-◌, ◌^◌, ◌<◌, ◌≤◌, ◌==◌, not, List, [], ◌∷◌, ◌++◌, length, get_or, Option, Some, None, Bool, true, false, if◌then◌else◌, arith, ltb-true}
use Rattle.std.specs.Prelude.{slice_get, slice_set, nat_lt}
use Rattle.std.specs.Option.{unwrap_or}
use Rattle.std.proofs.lemmas.List.{length-set, length_push}
use Rattle.std.proofs.lemmas.Option.{slice_get-get_or}
use Rattle.run_types.specs.declared.types.Place.{Place}
use Rattle.run_types.specs.declared.types.Value.TheVariants as V
use Rattle.run_types.specs.declared.types.NameId.{NameId}
use Rattle.run_types.specs.declared.types.Label.TheVariants as L
use Rattle.run_types.specs.declared.types.What.{What}
use Rattle.run_types.specs.declared.types.What.TheVariants as W
use Rattle.run_types.specs.declared.types.FullKind.TheVariants as F
use Rattle.run_types.specs.declared.types.Placement.{Placement}
use Rattle.code_semantics.specs.declared.unit.ClassCode.{ClassCode}
use Rattle.run_types.specs.declared.frames.CodeObject.{CodeObject}
use Rattle.code_semantics.specs.declared.unit.Unit.{Unit as Code}
use Rattle.code_semantics.specs.Kinds as C
use Rattle.code_semantics.specs.Kinds.{code_kind}
use Rattle.code_semantics.specs.Step.{class_from, code_made, code_placed, placed_at}
use Rattle.code_semantics.specs.StepInstructions.{AnyValue, FitsUnit}
use Rattle.code_semantics.proofs.Laws.{made_there}
use Rattle.code_semantics.specs.Proper.{IsProper}
use Rattle.run_types.specs.Tables.{Each}
use Rattle.node_heap.specs.Heaps.{object_at, frames_used, unbegun}
use Rattle.object_interp.specs.SettledObject.{settled_at}
use Rattle.mesh_of_code.specs.Coded as E
use Rattle.mesh_of_code.specs.Coded.{Placed, coded, kind_of, class_numbers, under_way}
use Rattle.mesh_semantics.specs.Delay as D
use Rattle.mesh_semantics.specs.Act.{class_place, id}
use Rattle.run_types.specs.Partial.{◌>>=◌}
use Rattle.mesh_semantics.specs.Kind.{Kind}
use Rattle.run_types.proofs.Laws.{equal, equals, same_some}
use Rattle.node_semantics.specs.Node as N
use Rattle.node_semantics.specs.Node.{Slot, NodeState, NodeActed, add_slot, count_one, create_act, fresh_slot, frames_in, goal_for, goal_here, made_here, made_own, message_count, name_at, put_request, put_state, set_at, slot_act, within_node}
use Rattle.mesh_semantics.specs.Requests.{posts_request}
use Rattle.node_semantics.specs.Agrees.{IsUnused}
use Rattle.node_semantics.proofs.Laws.{front_there, set_length}
use Rattle.rendezvous_protocol.specs.declared.packet.Packet.TheVariants as P
use Rattle.node_state.specs.declared.state.NodeParts.{NodeParts}
use Rattle.node_acts.specs.ActOf as A
use Rattle.node_state.specs.NodeOf.{NodeOf}
use Rattle.node_state.specs.OfUnit.{IsOfUnit}
use Rattle.node_state.specs.Views.{NodeInvariant, slots_of, node_of, slot_at}
use Rattle.node_state.specs.Changes.{IsAdded, IsChanged}
use Rattle.node_acts.specs.NodeSteps.{IsSet, IsTurned, IsMoved, turn_at}
use Rattle.node_state.proofs.Laws.{slots_length, slot_real, kind_seen, got, below_length, length_given, settled_placed}
use Rattle.node_acts.proofs.Laws.{frames_seen, frames_set, frames_add, messages_add, within_heap, within_frames, within_cells}
use Rattle.node_acts.proofs.Laws.{here, moved, moved_state, moved_line, moved_twice, turn_is, turned, same_messages}
use Rattle.node_acts.proofs.Laws.{within_objects, within_less, lt_not, under_le}

set_is : {X : Type 0} (xs : List X) (i : ℕ) (y : X) → slice_set xs i y ≡ set_at xs i y
set_is [] i y = refl
set_is (x ∷ xs) zero y = refl
set_is {X} (x ∷ xs) (suc i) y = ap (λ (zs : List X). x ∷ zs) (set_is xs i y)

set_front : {X : Type 0} (xs : List X) (i : ℕ) (x y : X) → i < length xs → set_at (xs ++ x ∷ []) i y ≡ set_at xs i y ++ x ∷ []
set_front [] i x y h = absurd (omega arith)
set_front (z ∷ xs) zero x y h = refl
set_front {X} (z ∷ xs) (suc i) x y h = ap (λ (zs : List X). z ∷ zs) (set_front xs i x y (omega (arith, h)))

-- the node of the next object of class c, by what is read of the table
pub goal_read : (l : Placement) (n made c : ℕ) (read : List Place) (d x : Place) → read ≡ l.places → c < length l.places → get_or read c d ≡ x
    → goal_for l n made (Some x) ≡ goal_for l n made (slice_get l.places c)
goal_read l n made c read d x same there e =
    ap (λ (o : Option Place). goal_for l n made o) (sym (slice_get-get_or l.places c d there ∙ ap (λ (z : Place). Some z) (ap (λ (ps : List Place). get_or ps c d) (sym same) ∙ e)))

-- the first class of a name
pub record IsClass (ks : List ClassCode) (k : NameId) (c : ℕ) : Type 0 where
  pub code : ClassCode
  pub there : slice_get ks c ≡ Some code
  pub name : code.name.0 ≡ k.0
  pub place : class_place (class_numbers ks) k.0 ≡ c

class_by : (n : ℕ) (ks : List ClassCode) (k : NameId) (c : ℕ) → class_from n ks k ≡ Some c → (j : ℕ) × (c ≡ n + j) × IsClass ks k j
class_by n [] k c h = absurd (cc)
class_by n (d ∷ ks) k c h = by (d.name.0 == k.0) refl (class_by (suc n) ks k c)
  where
    by : (b : Bool) → (d.name.0 == k.0) ≡ b → (class_from (suc n) ks k ≡ Some c → (j : ℕ) × (c ≡ suc n + j) × IsClass ks k j) → (j : ℕ) × (c ≡ n + j) × IsClass (d ∷ ks) k j
    by true e r =
        let p : n ≡ c = same_some (rw e at h) in
        (0, (let z : c ≡ n + 0 = omega (arith, p) in z), record { code = d; there = refl; name = equal d.name.0 k.0 e; place = rw e refl })
    by false e r =
        let w = r (rw e at h) in
        let f = w.2 in
        (suc w.0, (let a = w.1 in let z : c ≡ n + suc w.0 = omega (arith, a) in z), record { code = f.code; there = f.there; name = f.name; place = rw e (ap suc f.place) })

pub class_is : (ks : List ClassCode) (k : NameId) (c : ℕ) → class_from 0 ks k ≡ Some c → IsClass ks k c
class_is ks k c h =
    let r = class_by 0 ks k c h in
    let e : r.0 ≡ c = let a = r.1 in omega (arith, a) in
    subst (λ (j : ℕ). IsClass ks k j) e r.2

one_more : (u : Code) (p m : NodeParts) (y : Placed) → IsAdded u p m y → length m.heap.objects ≡ length p.heap.objects + 1
one_more u p m y a =
    let b = slots_length m.heap.objects m.outstanding m.faults m.goals m.mailbox.boxes in
    let c = ap (λ (n : NodeOf). length n.state.slots) a.is in
    let d = length_push (slots_of p) (fresh_slot y) in
    let e = slots_length p.heap.objects p.outstanding p.faults p.goals p.mailbox.boxes in omega (arith, b, c, d, e)

-- the new object has a name
pub no_fewer : (u : Code) (p m : NodeParts) (y : Placed) → IsAdded u p m y → (n : ℕ) → n ≡ length p.heap.objects → n ≤ length m.heap.objects
no_fewer u p m y a n is = let e = one_more u p m y a in omega (arith, e, is)

module _ (u : Code) (p m : NodeParts) (of : IsOfUnit u (node_of p)) (y : Placed) (a : IsAdded u p m y) (i : ℕ) (h : i < length p.heap.objects) where
  pub added_moved : IsMoved u p m (add_slot (node_of p).state y)
  added_moved = record {
    whole = a.whole;
    unit = a.unit;
    is = a.is ∙ ap (λ (bs : List Bool). record (node_of p) { state = add_slot (node_of p).state y; ready = bs }) (sym (ap (λ (n : NodeOf). n.ready) a.is));
  }

  slots_more : slots_of m ≡ slots_of p ++ fresh_slot y ∷ []
  slots_more = ap (λ (n : NodeOf). n.state.slots) a.is

  pub below_more : i < length m.heap.objects
  below_more = let e = one_more u p m y a in omega (arith, e, h)

  pub slot_kept : slot_at m i ≡ slot_at p i
  slot_kept =
      let e = slots_length p.heap.objects p.outstanding p.faults p.goals p.mailbox.boxes in
      let n : i ≢ length (slots_of p) = λ z. absurd (omega (arith, e, h, z)) in
      same_some (sym (slot_real u m a.unit i below_more).here ∙ (ap (λ (ss : List (Slot Placed)). slice_get ss i) slots_more
      ∙ (front_there (slots_of p) (fresh_slot y) i n ∙ (slot_real u p of i h).here)))

  pub free_kept : get_or p.outstanding i None ≡ None → get_or m.outstanding i None ≡ None
  free_kept e = ap (λ (s : Slot Placed). s.request) slot_kept ∙ e

  pub asks_kept : (k : NameId) → code_kind u (object_at p.heap i) ≡ C.New k → posts_request (kind_of (code_kind u (object_at m.heap i))) ≡ true
  asks_kept k e =
      ap (λ (z : Kind). posts_request z) (sym (kind_seen u m i 0)) ∙ (ap (λ (s : Slot Placed). posts_request ((coded u).kind 0 s.state)) slot_kept
      ∙ (ap (λ (z : Kind). posts_request z) (kind_seen u p i 0) ∙ ap (λ (z : C.Kind). posts_request (kind_of z)) e))

-- one more is counted
pub counted : (u : Code) (q : NodeParts) (made : List ℕ) → NodeInvariant q → IsOfUnit u (node_of q) → length made ≡ length q.made
    → IsMoved u q (record q { made = made }) (record (node_of q).state { made = made })
counted u q made w of e = record {
  whole = record {
    node = w.node;
    cells = w.cells;
    boxes = w.boxes;
    requests = w.requests;
    faults = w.faults;
    goals = w.goals;
    ready = w.ready;
    objects = w.objects;
    few = w.few;
    room = w.room;
    frames = w.frames;
    no_box = w.no_box;
    no_request = w.no_request;
    no_fault = w.no_fault;
    no_goal = w.no_goal;
  };
  unit = record { proper = of.proper; vars = of.vars; made = e ∙ of.made; slots = of.slots; distinct = of.distinct; ready = of.ready; long = of.long };
  is = refl;
}

module _ (u : Code) (l : Placement) (leaving : ℕ) (p : NodeParts) (set : IsSet u l leaving p) (i : ℕ) (h : i < length p.heap.objects) (k : NameId) (c : ℕ)
    (kind : code_kind u (object_at p.heap i) ≡ C.New k) (from : class_from 0 u.classes k ≡ Some c) where
  abbrev s : Slot Placed
  s = slot_at p i

  abbrev o : ℕ
  o = name_at p.id i

  abbrev x : NodeState Placed
  x = (node_of p).state

  abbrev count : ℕ
  count = get_or p.made c 0

  abbrev more : List ℕ
  more = slice_set p.made c (count + 1)

  the_class : IsClass u.classes k c
  the_class = class_is u.classes k c from

  unwrapped : (xs : List ℕ) (j : ℕ) → unwrap_or (slice_get xs j) 0 ≡ get_or xs j 0
  unwrapped [] j = refl
  unwrapped (z ∷ xs) zero = refl
  unwrapped (z ∷ xs) (suc j) = unwrapped xs j

  made_is : made_here (coded u) x k.0 ≡ count
  made_is = ap (λ (j : ℕ). unwrap_or (slice_get p.made j) 0) the_class.place ∙ unwrapped p.made c

  goal_is : goal_here (coded u) l x p.id k.0 ≡ goal_for l p.id count (slice_get l.places c)
  goal_is = ap₂ (λ (m j : ℕ). goal_for l p.id m (slice_get l.places j)) made_is the_class.place

  count_is : count_one (coded u) k.0 x ≡ record x { made = more }
  count_is =
      ap₂ (λ (j m : ℕ). record x { made = set_at p.made j (m + 1) }) the_class.place made_is ∙ ap (λ (ms : List ℕ). record x { made = ms }) (sym (set_is p.made c (count + 1)))

  turn : (n fresh goal : ℕ) → goal_for l p.id count (slice_get l.places c) ≡ goal → turn_at u l n fresh p i ≡ create_act (coded u) p.id fresh x i s k.0 goal
  turn n fresh goal e =
      turn_is u l n fresh p i (C.New k) kind ∙ ap (λ (g : ℕ). create_act (coded u) p.id fresh x i s k.0 g) (goal_is ∙ e)

  pub more_length : length more ≡ length p.made
  more_length = length-set p.made c (count + 1)

  -- on the own node
  module _ (y : CodeObject) (placed : code_placed u c ≡ Some y) where
    abbrev name : ℕ
    name = name_at p.id (length (slots_of p))

    abbrev t : Slot Placed
    t = record s { state = (coded u).given s.state (V.Ref name) }

    abbrev after : NodeState Placed
    after = record x { slots = set_at (slots_of p) i t ++ fresh_slot (E.placed y) ∷ []; made = more }

    abbrev line : What
    line = W.Step (L.New o name k) 1

    made_one : (coded u).made k.0 ≡ Some (E.placed y)
    made_one = ap (λ (a : Option ℕ). placed_at u a >>= λ z. Some (E.placed z)) from ∙ ap (λ (a : Option CodeObject). a >>= λ z. Some (E.placed z)) placed

    own_turn : (n fresh : ℕ) → goal_for l p.id count (slice_get l.places c) ≡ p.id → turn_at u l n fresh p i ≡ N.Acts line None after
    own_turn n fresh e =
        turn n fresh p.id e
        ∙ (ap (λ (b : Bool). if b then made_own (coded u) p.id (count_one (coded u) k.0 x) i s k.0 ((coded u).made k.0)
        else N.Acts (W.PostCreate o k p.id) (Some (record { number = Some fresh; packet = D.Create o p.id k.0 })) (put_request (count_one (coded u) k.0 x) i s fresh p.id)) (equals p.id)
        ∙ ap₂ (λ (z : NodeState Placed) (a : Option Placed). made_own (coded u) p.id z i s k.0 a) count_is made_one)

    pub here_made : (n : ℕ) (m q r : NodeParts) (what : What) (name' : ℕ) → goal_for l p.id count (slice_get l.places c) ≡ p.id → IsAdded u p m (E.placed y)
        → IsChanged u m q i (record (slot_at m i) { state = (coded u).given (slot_at m i).state (V.Ref name') }) → name' ≡ name_at m.id (length p.heap.objects)
        → (made : List ℕ) → r ≡ record q { made = made } → made ≡ slice_set q.made c (get_or q.made c 0 + 1) → what ≡ W.Step (L.New o name' k) 1 → IsTurned u l n leaving (A.Line what None) p r i
    here_made n m q r what name' e a ch nm made last counts w =
        let one = added_moved u p m set.unit (E.placed y) a i h in
        let kept = slot_kept u p m set.unit (E.placed y) a i h in
        let lengths = slots_length p.heap.objects p.outstanding p.faults p.goals p.mailbox.boxes in
        let named : name' ≡ name = nm ∙ ap₂ (λ (d j : ℕ). name_at d j) (ap (λ (z : NodeOf). z.id) a.is) (sym lengths) in
        let state₁ = moved_state u p m (add_slot x (E.placed y)) one in
        let there : i < length (slots_of p) = omega (arith, lengths, h) in
        let ch₁ : IsChanged u m q i t = subst (λ (z : Slot Placed). IsChanged u m q i z)
        (ap₂ (λ (z : Slot Placed) (j : ℕ). record z { state = (coded u).given z.state (V.Ref j) }) kept named) ch in
        let two = moved u m q i t ch₁ in
        let x₂ : NodeState Placed = record x { slots = set_at (slots_of p) i t ++ fresh_slot (E.placed y) ∷ [] } in
        let e₂ : record (node_of m).state { slots = set_at (slots_of m) i t } ≡ x₂ =
        ap (λ (z : NodeState Placed). record z { slots = set_at z.slots i t }) state₁
        ∙ ap (λ (ss : List (Slot Placed)). record x { slots = ss }) (set_front (slots_of p) i (fresh_slot (E.placed y)) t there) in
        let two₁ : IsMoved u m q x₂ = subst (λ (z : NodeState Placed). IsMoved u m q z) e₂ two in
        let both = moved_twice u p m (add_slot x (E.placed y)) one q x₂ two₁ in
        let state₂ = moved_state u p q x₂ both in
        let same_made : q.made ≡ p.made = ap (λ (z : NodeState Placed). z.made) state₂ in
        let counts₁ : made ≡ more = counts ∙ ap (λ (ms : List ℕ). slice_set ms c (get_or ms c 0 + 1)) same_made in
        let three : IsMoved u q (record q { made = made }) (record (node_of q).state { made = made }) =
        counted u q made both.whole both.unit (ap (λ (ms : List ℕ). length ms) counts₁ ∙ (more_length ∙ ap (λ (ms : List ℕ). length ms) (sym same_made))) in
        let three₁ : IsMoved u q (record q { made = made }) after =
        subst (λ (z : NodeState Placed). IsMoved u q (record q { made = made }) z) (ap₂ (λ (z : NodeState Placed) (ms : List ℕ). record z { made = ms }) state₂ counts₁) three in
        let all : IsMoved u p r after = subst (λ (z : NodeParts). IsMoved u p z after) (sym last) (moved_twice u p q x₂ both (record q { made = made }) after three₁) in
        turned u l n leaving (A.Line what None) p r i (λ fresh.
        moved_line u p r after all l leaving what None (turn_at u l n fresh p i)
        (own_turn n fresh e ∙ ap (λ (z : What). N.Acts z None after) (sym (w ∙ ap (λ (j : ℕ). W.Step (L.New o j k) 1) named)))
        (let f = messages_add (set_at (slots_of p) i t) (fresh_slot (E.placed y)) in let g = same_messages u l leaving p set i h t refl in let z = set.cells in omega (arith, f, g, z)))

    pub here_heap : (n : ℕ) (q : NodeParts) → q ≡ p → goal_for l p.id count (slice_get l.places c) ≡ p.id → length p.heap.objects ≡ p.heap.most_objects → IsTurned u l n leaving (A.Full F.Heap) p q i
    here_heap n q same e full =
        turned u l n leaving (A.Full F.Heap) p q i (λ fresh. record {
          same = same;
          full =
              ap (λ (a : NodeActed Placed). within_node (coded u) l leaving a) (own_turn n fresh e)
              ∙ within_heap (coded u) l leaving line None after
              (let a = length_push (set_at (slots_of p) i t) (fresh_slot (E.placed y)) in let b = set_length (slots_of p) i t in
              let d = slots_length p.heap.objects p.outstanding p.faults p.goals p.mailbox.boxes in let f = set.placement.objects in omega (arith, a, b, d, f, full));
        })

    pub here_frames : (n : ℕ) (q : NodeParts) → q ≡ p → goal_for l p.id count (slice_get l.places c) ≡ p.id
        → (length p.heap.objects < p.heap.most_objects) × (frames_used p.heap ≡ p.heap.most_frames) → IsTurned u l n leaving (A.Full F.Frames) p q i
    here_frames n q same e full =
        let given = length_given u s.state.object (V.Ref name) in
        let less₁ = under_le s.state.object.frames t.state.object.frames (omega (arith, given)) in
        let room = full.0 in
        turned u l n leaving (A.Full F.Frames) p q i (λ fresh. record {
          same = same;
          full =
              ap (λ (a : NodeActed Placed). within_node (coded u) l leaving a) (own_turn n fresh e)
              ∙ within_frames (coded u) l leaving line None after
              (let a = length_push (set_at (slots_of p) i t) (fresh_slot (E.placed y)) in let b = set_length (slots_of p) i t in
              let d = slots_length p.heap.objects p.outstanding p.faults p.goals p.mailbox.boxes in let f = set.placement.objects in omega (arith, a, b, d, f, room))
              (let a = frames_add u (set_at (slots_of p) i t) (fresh_slot (E.placed y)) in let b = frames_set u (slots_of p) i s t (here u l leaving p set i h) in
              let d = frames_seen u p set.unit in let f = set.placement.frames in let g = full.1 in omega (arith, a, b, d, f, g, less₁));
        })

  -- on another node
  module _ (goal : ℕ) (to : goal_for l p.id count (slice_get l.places c) ≡ goal) (other : goal ≢ p.id) where
    abbrev asked : ℕ → Slot Placed
    asked number = record s { request = Some number; goal = goal }

    abbrev later : ℕ → NodeState Placed
    later number = record x { slots = set_at (slots_of p) i (asked number); made = more }

    not_same : (goal == p.id) ≡ false
    not_same = by (goal == p.id) refl
      where
        by : (b : Bool) → (goal == p.id) ≡ b → b ≡ false
        by true e = absurd (other (equal goal p.id e))
        by false e = refl

    there_turn : (n fresh : ℕ) → turn_at u l n fresh p i ≡ N.Acts (W.PostCreate o k goal) (Some (record { number = Some fresh; packet = D.Create o goal k.0 })) (later fresh)
    there_turn n fresh =
        turn n fresh goal to
        ∙ (ap (λ (b : Bool). if b then made_own (coded u) p.id (count_one (coded u) k.0 x) i s k.0 ((coded u).made k.0)
        else N.Acts (W.PostCreate o k goal) (Some (record { number = Some fresh; packet = D.Create o goal k.0 })) (put_request (count_one (coded u) k.0 x) i s fresh goal)) not_same
        ∙ ap (λ (z : NodeState Placed). N.Acts (W.PostCreate o k goal) (Some (record { number = Some fresh; packet = D.Create o goal k.0 })) (put_request z i s fresh goal)) count_is)

    pub there_made : (n : ℕ) (q r : NodeParts) (number from' : ℕ) (class : NameId) → IsUnused number x → IsChanged u p q i (asked number)
        → (made : List ℕ) → r ≡ record q { made = made } → made ≡ slice_set q.made c (get_or q.made c 0 + 1) → from' ≡ o → class ≡ k
        → false ≡ not (nat_lt (message_count (slots_of p) + leaving) l.cells)
        → IsTurned u l n leaving (A.Line (W.PostCreate from' class goal) (Some (P.Create number from' goal class))) p r i
    there_made n q r number from' class unused ch made last counts ef ek room =
        let one = moved u p q i (asked number) ch in
        let x₁ : NodeState Placed = record x { slots = set_at (slots_of p) i (asked number) } in
        let state₁ = moved_state u p q x₁ one in
        let same_made : q.made ≡ p.made = ap (λ (z : NodeState Placed). z.made) state₁ in
        let counts₁ : made ≡ more = counts ∙ ap (λ (ms : List ℕ). slice_set ms c (get_or ms c 0 + 1)) same_made in
        let two : IsMoved u q (record q { made = made }) (record (node_of q).state { made = made }) =
        counted u q made one.whole one.unit (ap (λ (ms : List ℕ). length ms) counts₁ ∙ (more_length ∙ ap (λ (ms : List ℕ). length ms) (sym same_made))) in
        let two₁ : IsMoved u q (record q { made = made }) (later number) =
        subst (λ (z : NodeState Placed). IsMoved u q (record q { made = made }) z) (ap₂ (λ (z : NodeState Placed) (ms : List ℕ). record z { made = ms }) state₁ counts₁) two in
        let all : IsMoved u p r (later number) = subst (λ (z : NodeParts). IsMoved u p z (later number)) (sym last) (moved_twice u p q x₁ one (record q { made = made }) (later number) two₁) in (
          number,
          unused,
          moved_line u p r (later number) all l leaving (W.PostCreate from' class goal) (Some (P.Create number from' goal class)) (turn_at u l n number p i)
              (there_turn n number ∙ ap₂ (λ (z : ℕ) (d : NameId). N.Acts (W.PostCreate z d goal) (Some (record { number = Some number; packet = D.Create z goal d.0 })) (later number)) (sym ef) (sym ek))
              (let a = same_messages u l leaving p set i h (asked number) refl in
              let b = ltb-true (message_count (slots_of p) + leaving) l.cells (is_true (nat_lt (message_count (slots_of p) + leaving) l.cells) room) in omega (arith, a, b)),
        )
      where
        is_true : (b : Bool) → false ≡ not b → b ≡ true
        is_true true e = refl
        is_true false e = absurd (cc)

    pub there_full : (n : ℕ) → true ≡ not (nat_lt (message_count (slots_of p) + leaving) l.cells) → IsTurned u l n leaving (A.Full F.Cells) p p i
    there_full n room =
        turned u l n leaving (A.Full F.Cells) p p i (λ fresh. record {
          same = refl;
          full =
              ap (λ (a : NodeActed Placed). within_node (coded u) l leaving a) (there_turn n fresh)
              ∙ within_cells (coded u) l leaving (W.PostCreate o k goal) (Some (record { number = Some fresh; packet = D.Create o goal k.0 })) (later fresh)
              (within_objects u l leaving p set i h (asked fresh) refl) (within_less u l leaving p set i h (asked fresh) refl (let z : under_way s.state.object.frames ≤ under_way s.state.object.frames = omega arith in z))
              (let a = same_messages u l leaving p set i h (asked fresh) refl in
              let b = lt_not (message_count (slots_of p) + leaving) l.cells (is_false (nat_lt (message_count (slots_of p) + leaving) l.cells) room) in omega (arith, a, b));
        })
      where
        is_false : (b : Bool) → true ≡ not b → b ≡ false
        is_false true e = absurd (cc)
        is_false false e = refl

-- an object of a class that is there
pub some_placed : (u : Code) (k : NameId) (c : ℕ) → class_from 0 u.classes k ≡ Some c → (y : CodeObject) × (code_placed u c ≡ Some y)
some_placed u k c h =
    let w = class_is u.classes k c h in
    (settled_at u (unbegun c w.code.vars), settled_placed u c w.code w.there)

pub class_name : (ks js : List ClassCode) (k : NameId) (c : ℕ) (d : ClassCode) → class_from 0 ks k ≡ Some c → js ≡ ks → (get_or js c d).name ≡ k
class_name ks js k c d h e =
    let w = class_is ks k c h in
    let f : get_or js c d ≡ w.code = ap (λ (zs : List ClassCode). get_or zs c d) e ∙ got ks c d w.code w.there in
    ap (λ (n : ℕ). id n) (ap (λ (z : ClassCode). z.name.0) f ∙ w.name)

-- a class of which an object makes an object is there
pub class_found : (u : Code) (x : CodeObject) → FitsUnit u x → IsProper u → (k : NameId) (c : ℕ) → code_kind u x ≡ C.New k → unwrap_or (class_from 0 u.classes k) 0 ≡ c
    → class_from 0 u.classes k ≡ Some c
class_found u x fits proper k c kind is = by (class_from 0 u.classes k) refl is (made_there u proper AnyValue (λ z n. tt, λ b. tt, tt) x fits k kind)
  where
    by : (o : Option ℕ) → class_from 0 u.classes k ≡ o → unwrap_or o 0 ≡ c → (y : CodeObject) × (code_made u k ≡ Some y) → o ≡ Some c
    by None e i m = absurd (let w : None ≡ Some m.0 = sym (ap (λ (a : Option ℕ). placed_at u a) e) ∙ m.1 in cc)
    by (Some j) e i m = ap Some i

pub few_of : (ks : List ℕ) (c : ℕ) → Each (λ k. k < 2 ^ 32 - 1) ks → get_or ks c 0 < 2 ^ 32 - 1
few_of [] c h = omega arith
few_of (k ∷ ks) zero h = h.0
few_of (k ∷ ks) (suc c) h = few_of ks c h.1

pub class_below : (u : Code) (k : NameId) (c : ℕ) → class_from 0 u.classes k ≡ Some c → c < length u.classes
class_below u k c h = let w = class_is u.classes k c h in below_length u.classes c w.code w.there
