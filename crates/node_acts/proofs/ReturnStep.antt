-- The step that returns a value, and the receipt of a value.
use Rattle.std.proofs.Common.{◌≡◌, refl, sym, ap, subst, ◌∙◌, ℕ, zero, suc, ◌+◌, ◌<◌, ◌≤◌, ◌==◌, ◌||◌, not, List, [], ◌∷◌, length, get_or, Option, Some, None, Bool, true, false, if◌then◌else◌, arith, ltb-true}
use Rattle.std.specs.Prelude.{slice_get, nat_lt}
use Rattle.std.specs.List.{list_any}
use Rattle.std.proofs.lemmas.List.Sums.{sum_by-cons}
use Rattle.run_types.specs.declared.types.Value.{Value}
use Rattle.run_types.specs.declared.types.Label.TheVariants as L
use Rattle.run_types.specs.declared.types.What.{What}
use Rattle.run_types.specs.declared.types.What.TheVariants as W
use Rattle.run_types.specs.declared.types.FullKind.TheVariants as F
use Rattle.run_types.specs.declared.types.Placement.{Placement}
use Rattle.code_semantics.specs.declared.unit.Unit.{Unit as Code}
use Rattle.code_semantics.specs.Kinds as C
use Rattle.code_semantics.specs.Kinds.{code_kind}
use Rattle.node_heap.specs.Heaps.{object_at}
use Rattle.mesh_of_code.specs.Coded.{Placed, coded, under_way}
use Rattle.mesh_semantics.specs.Delay as D
use Rattle.run_types.specs.ObjectNames as DObjectNames
use Rattle.mesh_semantics.specs.Language.{Language}
use Rattle.node_semantics.specs.Node as N
use Rattle.node_semantics.specs.Node.{Slot, NodeState, NodeActed, give_back, has_number, message_count, name_at, return_act, set_at, settled, within_node}
use Rattle.node_semantics.proofs.Laws.{settled_is}
use Rattle.rendezvous_protocol.specs.declared.packet.Packet.TheVariants as P
use Rattle.rendezvous_protocol.specs.Numbers.{is_number}
use Rattle.node_state.specs.declared.state.NodeParts.{NodeParts}
use Rattle.node_acts.specs.ActOf as A
use Rattle.node_state.specs.OfUnit.{IsOfUnit}
use Rattle.node_state.specs.Views.{NodeInvariant, tail_of, slots_of, node_of, slot_at}
use Rattle.node_state.specs.Changes.{IsChanged}
use Rattle.node_acts.specs.NodeSteps.{IsSet, IsTurned, IsMoved, turn_at}
use Rattle.node_state.proofs.Laws.{slot_real, slot_view, returned_number, length_gone_on}
use Rattle.node_acts.proofs.NodeLimits.{within_cells}
use Rattle.node_acts.proofs.StepFromChanges.{moved, moved_state, moved_line, moved_twice, turn_is, turned, same_messages}
use Rattle.node_acts.proofs.PostStep.{within_objects, within_less, same_eq, lt_not, under_le}

-- the number is out for no slot
none_out : (os : List (Option ℕ)) (number i : ℕ) → list_any (is_number number) os ≡ false → is_number number (get_or os i None) ≡ false
none_out [] number i h = refl
none_out (o ∷ os) number zero h = by (is_number number o) h
  where
    by : (b : Bool) → (b || list_any (is_number number) os) ≡ false → b ≡ false
    by true e = absurd (cc)
    by false e = refl
none_out (o ∷ os) number (suc i) h = none_out os number i (by (is_number number o) h)
  where
    by : (b : Bool) → (b || list_any (is_number number) os) ≡ false → list_any (is_number number) os ≡ false
    by true e = absurd (cc)
    by false e = e

number_same : (number : ℕ) (o : Option ℕ) → has_number o number ≡ is_number number o
number_same number None = refl
number_same number (Some k) = refl

settled_none : {S : Type 0} (g : Language S) (number : ℕ) (v : Value) (ss : List (Slot S))
    → ((i : ℕ) (s : Slot S) → slice_get ss i ≡ Some s → has_number s.request number ≡ false) → settled g number v ss ≡ ss
settled_none g number v [] h = refl
settled_none {S} g number v (s ∷ ss) h =
    let e = h 0 s refl in
    let r = settled_none g number v ss (λ i t k. h (suc i) t k) in
    rw e (ap (λ (ts : List (Slot S)). s ∷ ts) r)

pub messages_settled : (u : Code) (number : ℕ) (v : Value) (ss : List (Slot Placed)) → message_count (settled (coded u) number v ss) ≡ message_count ss
messages_settled u number v [] = refl
messages_settled u number v (s ∷ ss) = by (has_number s.request number) refl (messages_settled u number v ss)
  where
    by : (b : Bool) → has_number s.request number ≡ b → message_count (settled (coded u) number v ss) ≡ message_count ss → message_count (settled (coded u) number v (s ∷ ss)) ≡ message_count (s ∷ ss)
    by true e r = rw e (
        sum_by-cons (λ (z : Slot Placed). length z.mailbox) (record s { state = (coded u).given s.state v; request = None }) ss
        ∙ sym (sum_by-cons (λ (z : Slot Placed). length z.mailbox) s ss))
    by false e r = rw e (
        let a = sum_by-cons (λ (z : Slot Placed). length z.mailbox) s (settled (coded u) number v ss) in
        let b = sum_by-cons (λ (z : Slot Placed). length z.mailbox) s ss in a ∙ omega (arith, b, r))

module _ (u : Code) (p : NodeParts) (of : IsOfUnit u (node_of p)) (number : ℕ) (v : Value) where
  pub settled_moved : (q : NodeParts) (r : ℕ) → r < length p.heap.objects → (slot_at p r).request ≡ Some number
      → IsChanged u p q r (record (slot_at p r) { state = (coded u).given (slot_at p r).state v; request = None })
      → IsMoved u p q (record (node_of p).state { slots = settled (coded u) number v (slots_of p) })
  settled_moved q r h out c =
      let here = (slot_real u p of r h).here in
      let e = settled_is (coded u) number v (slots_of p) r (slot_at p r) here out (λ i t k f. of.distinct i r number t (slot_at p r) k here f out) in
      subst (λ (ss : List (Slot Placed)). IsMoved u p q (record (node_of p).state { slots = ss })) (sym e)
      (moved u p q r (record (slot_at p r) { state = (coded u).given (slot_at p r).state v; request = None }) c)

  pub settled_nowhere : NodeInvariant p → list_any (is_number number) p.outstanding ≡ false
      → IsMoved u p p (record (node_of p).state { slots = settled (coded u) number v (slots_of p) })
  settled_nowhere whole h =
      let e = settled_none (coded u) number v (slots_of p) (λ i s k.
      let w = slot_view p i s k in
      ap (λ (z : Slot Placed). has_number z.request number) w.1 ∙ (number_same number (get_or p.outstanding i None) ∙ none_out p.outstanding number i h)) in
      let m : IsMoved u p p (node_of p).state = record { whole = whole; unit = of; is = refl } in
      subst (λ (ss : List (Slot Placed)). IsMoved u p p (record (node_of p).state { slots = ss })) (sym e) m

module _ (u : Code) (l : Placement) (leaving : ℕ) (p : NodeParts) (set : IsSet u l leaving p) (i : ℕ) (h : i < length p.heap.objects) (k number : ℕ) (v : Value)
    (kind : code_kind u (object_at p.heap i) ≡ C.Return k number v) where
  abbrev s : Slot Placed
  s = slot_at p i

  abbrev t : Slot Placed
  t = record s { state = (coded u).returned s.state; callers = tail_of s.callers }

  abbrev after : NodeState Placed
  after = record (node_of p).state { slots = set_at (slots_of p) i t }

  abbrev line : What
  line = W.Step (L.Return (name_at p.id i) k v) 1

  turn : (n fresh : ℕ) → turn_at u l n fresh p i ≡ give_back (coded u) p.id number line k v after
  turn n fresh =
      turn_is u l n fresh p i (C.Return k number v) kind
      ∙ ap (λ (ns : List ℕ). return_act (coded u) p.id (node_of p).state i s k v ns) (returned_number u p set.whole set.unit i h k number v kind)

  less : under_way t.state.object.frames ≤ under_way s.state.object.frames
  less = under_le t.state.object.frames s.state.object.frames (length_gone_on u s.state.object)

  count : message_count after.slots ≡ message_count (slots_of p)
  count = same_messages u l leaving p set i h t refl

  pub return_here : (n : ℕ) (q r : NodeParts) (what : What) → DObjectNames.node_of k ≡ p.id → IsChanged u p q i t
      → IsMoved u q r (record (node_of q).state { slots = settled (coded u) number v (slots_of q) }) → what ≡ line
      → IsTurned u l n leaving (A.Line what None) p r i
  return_here n q r what own c m w =
      let first = moved u p q i t c in
      let e = moved_state u p q after first in
      let m₁ : IsMoved u q r (record after { slots = settled (coded u) number v after.slots }) =
      subst (λ (y : NodeState Placed). IsMoved u q r (record y { slots = settled (coded u) number v y.slots })) e m in
      let both = moved_twice u p q after first r (record after { slots = settled (coded u) number v after.slots }) m₁ in
      turned u l n leaving (A.Line what None) p r i (λ fresh.
      moved_line u p r (record after { slots = settled (coded u) number v after.slots }) both l leaving what None (turn_at u l n fresh p i)
      (turn n fresh
      ∙ (ap (λ (b : Bool). if b then N.Acts line None (record after { slots = settled (coded u) number v after.slots })
      else N.Acts line (Some (record { number = Some number; packet = D.Result k v })) after) (same_eq (DObjectNames.node_of k) p.id own)
      ∙ ap (λ (z : What). N.Acts z None (record after { slots = settled (coded u) number v after.slots })) (sym w)))
      (let a = messages_settled u number v after.slots in let b = count in let z = set.cells in omega (arith, a, b, z)))

  away : (n fresh : ℕ) → (DObjectNames.node_of k == p.id) ≡ false → turn_at u l n fresh p i ≡ N.Acts line (Some (record { number = Some number; packet = D.Result k v })) after
  away n fresh other =
      turn n fresh
      ∙ ap (λ (b : Bool). if b then N.Acts line None (record after { slots = settled (coded u) number v after.slots })
      else N.Acts line (Some (record { number = Some number; packet = D.Result k v })) after) other

  pub return_away : (n : ℕ) (q : NodeParts) (what : What) → (DObjectNames.node_of k == p.id) ≡ false → IsChanged u p q i t
      → false ≡ not (nat_lt (message_count (slots_of p) + leaving) l.cells) → what ≡ line
      → IsTurned u l n leaving (A.Line what (Some (P.Result number k v))) p q i
  return_away n q what other c room w =
      turned u l n leaving (A.Line what (Some (P.Result number k v))) p q i (λ fresh.
      moved_line u p q after (moved u p q i t c) l leaving what (Some (P.Result number k v)) (turn_at u l n fresh p i)
      (away n fresh other ∙ ap (λ (z : What). N.Acts z (Some (record { number = Some number; packet = D.Result k v })) after) (sym w))
      (let a = count in let b = ltb-true (message_count (slots_of p) + leaving) l.cells (is_true (nat_lt (message_count (slots_of p) + leaving) l.cells) room) in omega (arith, a, b)))
    where
      is_true : (b : Bool) → false ≡ not b → b ≡ true
      is_true true e = refl
      is_true false e = absurd (cc)

  pub return_full : (n : ℕ) → (DObjectNames.node_of k == p.id) ≡ false → true ≡ not (nat_lt (message_count (slots_of p) + leaving) l.cells)
      → IsTurned u l n leaving (A.Full F.Cells) p p i
  return_full n other room =
      turned u l n leaving (A.Full F.Cells) p p i (λ fresh. record {
        same = refl;
        full =
            ap (λ (a : NodeActed Placed). within_node (coded u) l leaving a) (away n fresh other)
            ∙ within_cells (coded u) l leaving line (Some (record { number = Some number; packet = D.Result k v })) after
            (within_objects u l leaving p set i h t refl) (within_less u l leaving p set i h t refl less)
            (let a = count in let b = lt_not (message_count (slots_of p) + leaving) l.cells (is_false (nat_lt (message_count (slots_of p) + leaving) l.cells) room) in omega (arith, a, b));
      })
    where
      is_false : (b : Bool) → true ≡ not b → b ≡ false
      is_false true e = absurd (cc)
      is_false false e = refl
