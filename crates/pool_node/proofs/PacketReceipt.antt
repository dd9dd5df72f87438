-- The receipt of packets at their goal.
use Rattle.std.proofs.Common.{◌≡◌, inl, inr, refl, sym, ap, ap₂, subst, ◌∙◌, ℕ, zero, suc, ◌+◌, ◌<◌, ◌≤◌, ◌==◌, not, List, [], ◌∷◌, length, drop, get_or, Option, Some, None, Bool, true, false, if◌then◌else◌, arith, ltb-true}
use Rattle.std.specs.Prelude.{slice_get, nat_lt}
use Rattle.std.proofs.lemmas.List.{length_push}
use Rattle.run_types.specs.declared.types.Value.{Value}
use Rattle.run_types.specs.declared.types.NameId.{NameId}
use Rattle.run_types.specs.declared.types.Label.TheVariants as L
use Rattle.run_types.specs.declared.types.What.{What}
use Rattle.run_types.specs.declared.types.What.TheVariants as W
use Rattle.run_types.specs.declared.types.FullKind.TheVariants as F
use Rattle.run_types.specs.declared.types.Placement.{Placement}
use Rattle.code_semantics.specs.declared.unit.ClassCode.{ClassCode}
use Rattle.run_types.specs.declared.frames.CodeObject.{CodeObject}
use Rattle.code_semantics.specs.declared.unit.Unit.{Unit as Code}
use Rattle.code_semantics.specs.Step.{class_from, code_placed, placed_at, placed_of}
use Rattle.node_heap.specs.Heaps.{frames_used}
use Rattle.slot_queues.specs.declared.Message.{Message}
use Rattle.slot_queues.specs.Mail.{lengths}
use Rattle.mesh_of_code.specs.Coded as E
use Rattle.mesh_of_code.specs.Coded.{Placed, coded, class_numbers, under_way}
use Rattle.mesh_semantics.specs.Delay as D
use Rattle.mesh_semantics.specs.NumberedPackets as NumberedPackets
use Rattle.run_types.specs.ObjectNames as DObjectNames
use Rattle.run_types.specs.PathFacts.{In}
use Rattle.run_types.specs.Partial.{◌>>=◌}
use Rattle.run_types.proofs.Laws.{equals, same_some}
use Rattle.node_semantics.specs.Node as N
use Rattle.node_semantics.specs.Node.{Slot, NodeState, NodeActed, add_slot, created_for, deliver, fresh_slot, frames_in, message_count, name_at, receipt, within_node}
use Rattle.node_semantics.specs.Receives.{HasObject}
use Rattle.rendezvous_protocol.specs.declared.packet.Packet.TheVariants as P
use Rattle.node_state.specs.declared.state.NodeParts.{NodeParts}
use Rattle.node_state.specs.NodeOf.{NodeOf}
use Rattle.node_state.specs.Views.{arrival_of, slots_of, node_of}
use Rattle.node_state.specs.Changes.{IsAdded}
use Rattle.node_acts.specs.NodeSteps.{IsSet, IsLine, IsFull, IsMoved}
use Rattle.pool_node.specs.SettledNumber.{settled_number}
use Rattle.node_state.proofs.Laws.{slots_length, below_length}
use Rattle.node_acts.proofs.Laws.{messages_seen, frames_seen, frames_add, messages_add, within_heap, within_frames, within_cells, moved_line, delivered_length, delivered_frames, delivered_one, messages_settled, lt_not}

-- the class of a name
named_step : (n : ℕ) (ks : List ClassCode) (k : NameId) (d : ClassCode) (i : ℕ) → i < length ks
    → class_from n (drop i ks) k ≡ (if (get_or ks i d).name.0 == k.0 then Some n else class_from (suc n) (drop (suc i) ks) k)
named_step n [] k d i h = absurd (omega arith)
named_step n (c ∷ ks) k d zero h = refl
named_step n (c ∷ ks) k d (suc i) h = named_step n ks k d i (omega (arith, h))

pub named_there : (n : ℕ) (ks : List ClassCode) (k : NameId) → In k.0 (class_numbers ks) → class_from n ks k ≡ None → ⊥
named_there n [] k h e = h
named_there n (c ∷ ks) k h e = by (c.name.0 == k.0) refl h (named_there (suc n) ks k)
  where
    by : (b : Bool) → (c.name.0 == k.0) ≡ b → In k.0 (class_numbers (c ∷ ks)) → (In k.0 (class_numbers ks) → class_from (suc n) ks k ≡ None → ⊥) → ⊥
    by true z i r = let w : Some n ≡ None = rw z at e in absurd (cc)
    by false z (inl i) r = let w : (c.name.0 == k.0) ≡ true = subst (λ (j : ℕ). (c.name.0 == j) ≡ true) i (equals c.name.0) in absurd (cc)
    by false z (inr i) r = r i (rw z at e)

one_frame : (u : Code) (c : ℕ) (y : CodeObject) → code_placed u c ≡ Some y → under_way y.frames ≡ 0
one_frame u c y h = by (slice_get u.classes c) h
  where
    by : (o : Option ClassCode) → placed_of c o ≡ Some y → under_way y.frames ≡ 0
    by None e = absurd (cc)
    by (Some k) e = ap (λ (z : CodeObject). under_way z.frames) (sym (same_some e))

module _ (u : Code) (l : Placement) (leaving : ℕ) (p : NodeParts) (set : IsSet u l leaving p) where
  abbrev x : NodeState Placed
  x = (node_of p).state

  module _ (number from c : ℕ) (name : NameId) (named : class_from 0 u.classes name ≡ Some c) (y : CodeObject) (placed : code_placed u c ≡ Some y) where
    abbrev line : What
    line = W.Step (L.New from (name_at p.id (length (slots_of p))) name) 1

    abbrev after : NodeState Placed
    after = add_slot x (E.placed y)

    abbrev packet : Option NumberedPackets.NumberedPacket
    packet = Some (record { number = Some number; packet = D.Created from (name_at p.id (length (slots_of p))) })

    made_one : (coded u).made name.0 ≡ Some (E.placed y)
    made_one = ap (λ (a : Option ℕ). placed_at u a >>= λ z. Some (E.placed z)) named ∙ ap (λ (a : Option CodeObject). a >>= λ z. Some (E.placed z)) placed

    create_is : (goal : ℕ) → receipt (coded u) p.id x (Some number) (D.Create from goal name.0) ≡ N.Acts line packet after
    create_is goal = ap (λ (a : Option Placed). created_for p.id x (Some number) from name.0 a) made_one

    lengths_are : length (slots_of p) ≡ length p.heap.objects
    lengths_are = slots_length p.heap.objects p.outstanding p.faults p.goals p.mailbox.boxes

    frames_are : frames_in (coded u) after.slots ≡ frames_used p.heap + 1
    frames_are = let a = frames_add u (slots_of p) (fresh_slot (E.placed y)) in let b = one_frame u c y placed in let d = frames_seen u p set.unit in omega (arith, a, b, d)

    pub create_heap : (goal : ℕ) (q : NodeParts) → q ≡ p → l.objects ≤ length p.heap.objects
        → IsFull u l leaving F.Heap p q (receipt (coded u) p.id x (Some number) (D.Create from goal name.0))
    create_heap goal q same full = record {
      same = same;
      full =
          ap (λ (a : NodeActed Placed). within_node (coded u) l leaving a) (create_is goal)
          ∙ within_heap (coded u) l leaving line packet after (let a = length_push (slots_of p) (fresh_slot (E.placed y)) in let b = lengths_are in omega (arith, a, b, full));
    }

    fits_objects : length p.heap.objects < l.objects → length after.slots ≤ l.objects
    fits_objects room = let a = length_push (slots_of p) (fresh_slot (E.placed y)) in let b = lengths_are in omega (arith, a, b, room)

    pub create_frames : (goal : ℕ) (q : NodeParts) → q ≡ p → length p.heap.objects < l.objects → l.frames ≤ frames_used p.heap
        → IsFull u l leaving F.Frames p q (receipt (coded u) p.id x (Some number) (D.Create from goal name.0))
    create_frames goal q same room full = record {
      same = same;
      full =
          ap (λ (a : NodeActed Placed). within_node (coded u) l leaving a) (create_is goal)
          ∙ within_frames (coded u) l leaving line packet after (fits_objects room) (let b = frames_are in omega (arith, b, full));
    }

    pub create_cells : (goal : ℕ) (q : NodeParts) → q ≡ p → length p.heap.objects < l.objects → frames_used p.heap < l.frames → true ≡ not (nat_lt (message_count (slots_of p) + leaving) l.cells)
        → IsFull u l leaving F.Cells p q (receipt (coded u) p.id x (Some number) (D.Create from goal name.0))
    create_cells goal q same room more full = record {
      same = same;
      full =
          ap (λ (a : NodeActed Placed). within_node (coded u) l leaving a) (create_is goal)
          ∙ within_cells (coded u) l leaving line packet after (fits_objects room) (let b = frames_are in omega (arith, b, more))
          (let a = messages_add (slots_of p) (fresh_slot (E.placed y)) in
          let b = lt_not (message_count (slots_of p) + leaving) l.cells (is_false (nat_lt (message_count (slots_of p) + leaving) l.cells) full) in omega (arith, a, b));
    }
      where
        is_false : (b : Bool) → true ≡ not b → b ≡ false
        is_false true e = absurd (cc)
        is_false false e = refl

    pub create_made : (goal : ℕ) (q : NodeParts) (what : What) (object : ℕ) → IsAdded u p q (E.placed y) → object ≡ name_at q.id (length p.heap.objects) → what ≡ W.Step (L.New from object name) 1
        → false ≡ not (nat_lt (message_count (slots_of p) + leaving) l.cells)
        → IsLine u l leaving what (Some (P.Created number from object)) p q (receipt (coded u) p.id x (Some number) (D.Create from goal name.0))
    create_made goal q what object a eo w room =
        let m : IsMoved u p q after = record {
          whole = a.whole;
          unit = a.unit;
          is = a.is ∙ ap (λ (bs : List Bool). record (node_of p) { state = after; ready = bs }) (sym (ap (λ (n : NodeOf). n.ready) a.is));
        } in
        let o : object ≡ name_at p.id (length (slots_of p)) = eo ∙ ap₂ (λ (n j : ℕ). name_at n j) (ap (λ (n : NodeOf). n.id) a.is) (sym lengths_are) in
        moved_line u p q after m l leaving what (Some (P.Created number from object)) (receipt (coded u) p.id x (Some number) (D.Create from goal name.0))
        (create_is goal ∙ (ap (λ (j : ℕ). N.Acts (W.Step (L.New from j name) 1) (Some (record { number = Some number; packet = D.Created from j })) after) (sym o)
        ∙ ap (λ (z : What). N.Acts z (Some (record { number = Some number; packet = D.Created from object })) after) (sym w)))
        (let b = messages_add (slots_of p) (fresh_slot (E.placed y)) in
        let d = ltb-true (message_count (slots_of p) + leaving) l.cells (is_true (nat_lt (message_count (slots_of p) + leaving) l.cells) room) in omega (arith, b, d))
      where
        is_true : (b : Bool) → false ≡ not b → b ≡ true
        is_true true e = refl
        is_true false e = absurd (cc)

  pub value_made : (number : ℕ) (v : Value) (what : What) (q : NodeParts) → IsMoved u p q (settled_number u number v x) → IsLine u l leaving what None p q (N.Acts what None (settled_number u number v x))
  value_made number v what q m =
      moved_line u p q (settled_number u number v x) m l leaving what None (N.Acts what None (settled_number u number v x)) refl
      (let a = messages_settled u number v (slots_of p) in let b = set.cells in omega (arith, a, b))

  module _ (to : ℕ) (m : Message) (there : DObjectNames.slot_of to < length p.heap.objects) (what : What) where
    abbrev arrived : NodeState Placed
    arrived = deliver to (arrival_of m) x

    here : DObjectNames.slot_of to < length (slots_of p)
    here = let a = slots_length p.heap.objects p.outstanding p.faults p.goals p.mailbox.boxes in omega (arith, a, there)

    pub message_full : (q : NodeParts) → q ≡ p → true ≡ not (nat_lt (message_count (slots_of p) + leaving) l.cells) → IsFull u l leaving F.Cells p q (N.Acts what None arrived)
    message_full q same full = record {
      same = same;
      full =
          within_cells (coded u) l leaving what None arrived
          (let a = delivered_length u to (arrival_of m) x in let b = slots_length p.heap.objects p.outstanding p.faults p.goals p.mailbox.boxes in
          let c = set.whole.objects in let d = set.placement.objects in omega (arith, a, b, c, d))
          (let a = delivered_frames u to (arrival_of m) x in let b = frames_seen u p set.unit in let c = set.frames in omega (arith, a, b, c))
          (let a = delivered_one u to (arrival_of m) x here in
          let b = lt_not (message_count (slots_of p) + leaving) l.cells (is_false (nat_lt (message_count (slots_of p) + leaving) l.cells) full) in omega (arith, a, b));
    }
      where
        is_false : (b : Bool) → true ≡ not b → b ≡ false
        is_false true e = absurd (cc)
        is_false false e = refl

    room : false ≡ not (nat_lt (message_count (slots_of p) + leaving) l.cells) → message_count (slots_of p) + leaving < l.cells
    room e = ltb-true (message_count (slots_of p) + leaving) l.cells (is_true (nat_lt (message_count (slots_of p) + leaving) l.cells) e)
      where
        is_true : (b : Bool) → false ≡ not b → b ≡ true
        is_true true e = refl
        is_true false e = absurd (cc)

    pub message_room : false ≡ not (nat_lt (message_count (slots_of p) + leaving) l.cells) → lengths p.mailbox.boxes < p.mailbox.cells
    message_room e = let a = room e in let b = messages_seen p set.whole in let c = set.placement.cells in omega (arith, a, b, c)

    pub message_made : (q : NodeParts) → IsMoved u p q arrived → false ≡ not (nat_lt (message_count (slots_of p) + leaving) l.cells) → IsLine u l leaving what None p q (N.Acts what None arrived)
    message_made q k e =
        moved_line u p q arrived k l leaving what None (N.Acts what None arrived) refl
        (let a = delivered_one u to (arrival_of m) x here in let b = room e in omega (arith, a, b))

pub object_there : (p : NodeParts) (to : ℕ) → HasObject (node_of p).state to → DObjectNames.slot_of to < length p.heap.objects
object_there p to h =
    let a = below_length (slots_of p) (DObjectNames.slot_of to) h.0 h.1 in
    let b = slots_length p.heap.objects p.outstanding p.faults p.goals p.mailbox.boxes in omega (arith, a, b)
