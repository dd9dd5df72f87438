-- A step is put together from small changes.
use Rattle.std.proofs.Common.{◌≡◌, refl, sym, ap, subst, ◌∙◌, ℕ, zero, suc, ◌+◌, ◌<◌, ◌≤◌, List, [], ◌∷◌, ◌++◌, length, Option, Some, None, Bool, arith}
use Rattle.std.specs.Prelude.{slice_get}
use Rattle.std.specs.Option.{option_map}
use Rattle.std.proofs.lemmas.List.{length_push}
use Rattle.run_types.specs.declared.types.Error.{Error}
use Rattle.run_types.specs.declared.types.Item.{Item}
use Rattle.run_types.specs.declared.types.Label.TheVariants as L
use Rattle.run_types.specs.declared.types.What.{What}
use Rattle.run_types.specs.declared.types.What.TheVariants as W
use Rattle.run_types.specs.declared.types.Placement.{Placement}
use Rattle.code_semantics.specs.declared.unit.Unit.{Unit as Code}
use Rattle.code_semantics.specs.Kinds as C
use Rattle.code_semantics.specs.Kinds.{code_kind}
use Rattle.node_heap.specs.Heaps.{object_at}
use Rattle.mesh_of_code.specs.Coded.{Placed, coded, kind_of}
use Rattle.run_types.specs.ObjectNames as D
use Rattle.mesh_semantics.specs.Kind.{Kind}
use Rattle.node_semantics.specs.Node as N
use Rattle.node_semantics.specs.Node.{Slot, NodeState, NodeActed, NumberedArrival, deliver, deliver_in, frames_in, message_count, name_at, packet_count, put_state, put_request, set_at, slot_act, within_node}
use Rattle.node_semantics.proofs.Laws.{unused_number, set_length}
use Rattle.rendezvous_protocol.specs.declared.packet.Packet.{Packet}
use Rattle.rendezvous_protocol.specs.Packets.{numbered}
use Rattle.node_state.specs.declared.state.NodeParts.{NodeParts}
use Rattle.node_acts.specs.ActOf.{Act}
use Rattle.node_acts.specs.ActOf as A
use Rattle.node_state.specs.NodeOf.{NodeOf}
use Rattle.node_state.specs.OfUnit.{IsOfUnit}
use Rattle.node_state.specs.Views.{NodeInvariant, slots_of, node_of, slot_at}
use Rattle.node_state.specs.Changes.{IsChanged}
use Rattle.node_acts.specs.NodeSteps.{IsSet, IsLine, ReportsAct, IsTurned, IsMoved, turn_at}
use Rattle.node_state.proofs.Laws.{slots_length, slot_real, kind_seen}
use Rattle.node_acts.proofs.NodeLimits.{messages_set, frames_set}

pub moved : (u : Code) (p q : NodeParts) (i : ℕ) (t : Slot Placed) → IsChanged u p q i t → IsMoved u p q (record (node_of p).state { slots = set_at (slots_of p) i t })
moved u p q i t c = record {
  whole = c.whole;
  unit = c.unit;
  is = c.is ∙ ap (λ (bs : List Bool). record (node_of p) { state = record (node_of p).state { slots = set_at (slots_of p) i t }; ready = bs }) (sym (ap (λ (n : NodeOf). n.ready) c.is));
}

module _ (u : Code) (p q : NodeParts) (x : NodeState Placed) (m : IsMoved u p q x) where
  pub moved_state : (node_of q).state ≡ x
  moved_state = ap (λ (n : NodeOf). n.state) m.is

  pub moved_id : q.id ≡ p.id
  moved_id = ap (λ (n : NodeOf). n.id) m.is

  pub moved_line : (l : Placement) (leaving : ℕ) (what : What) (packet : Option Packet) (a : NodeActed Placed) → a ≡ N.Acts what (option_map numbered packet) x
      → message_count x.slots + leaving + packet_count (option_map numbered packet) ≤ l.cells → IsLine u l leaving what packet p q a
  moved_line l leaving what packet a e cells = record {
    whole = m.whole;
    unit = m.unit;
    is = e ∙ ap (λ (y : NodeState Placed). N.Acts what (option_map numbered packet) y) (sym moved_state);
    rest = m.is ∙ ap (λ (y : NodeState Placed). record (node_of p) { state = y; ready = (node_of q).ready }) (sym moved_state);
    cells = subst (λ (y : NodeState Placed). message_count y.slots + leaving + packet_count (option_map numbered packet) ≤ l.cells) (sym moved_state) cells;
  }

  -- one change after another
  pub moved_twice : (r : NodeParts) (y : NodeState Placed) → IsMoved u q r y → IsMoved u p r y
  moved_twice r y k = record { whole = k.whole; unit = k.unit; is = k.is ∙ ap (λ (n : NodeOf). record n { state = y; ready = (node_of r).ready }) m.is }

  pub line_after : (l : Placement) (leaving : ℕ) (what : What) (packet : Option Packet) (r : NodeParts) (f : NodeState Placed → NodeActed Placed)
      → IsLine u l leaving what packet q r (f (node_of q).state) → IsLine u l leaving what packet p r (f x)
  line_after l leaving what packet r f k = record {
    whole = k.whole;
    unit = k.unit;
    is = ap f (sym moved_state) ∙ k.is;
    rest = k.rest ∙ ap (λ (n : NodeOf). record n { state = (node_of r).state; ready = (node_of r).ready }) m.is;
    cells = k.cells;
  }

-- a turn, by what is at hand
pub turn_is : (u : Code) (l : Placement) (n fresh : ℕ) (p : NodeParts) (i : ℕ) (k : C.Kind) → code_kind u (object_at p.heap i) ≡ k
    → turn_at u l n fresh p i ≡ slot_act (coded u) l n p.id fresh (node_of p).state i (slot_at p i) (kind_of k)
turn_is u l n fresh p i k e =
    ap (λ (z : Kind). slot_act (coded u) l n p.id fresh (node_of p).state i (slot_at p i) z) (kind_seen u p i (name_at p.id i) ∙ ap kind_of e)

pub turned : (u : Code) (l : Placement) (n leaving : ℕ) (act : Act) (p q : NodeParts) (i : ℕ) → ((fresh : ℕ) → ReportsAct u l leaving act p q (turn_at u l n fresh p i))
    → IsTurned u l n leaving act p q i
turned u l n leaving act p q i h = let f = unused_number (node_of p).state in (f.0, f.1, h f.0)

module _ (u : Code) (l : Placement) (leaving : ℕ) (p : NodeParts) (set : IsSet u l leaving p) (i : ℕ) (h : i < length p.heap.objects) where
  pub here : slice_get (slots_of p) i ≡ Some (slot_at p i)
  here = (slot_real u p set.unit i h).here

  -- a slot with as many messages
  pub same_messages : (t : Slot Placed) → length t.mailbox ≡ length (slot_at p i).mailbox → message_count (set_at (slots_of p) i t) ≡ message_count (slots_of p)
  same_messages t e = let a = messages_set u (slots_of p) i (slot_at p i) t here in omega (arith, a, e)

  pub quiet_cells : (t : Slot Placed) → length t.mailbox ≡ length (slot_at p i).mailbox → message_count (set_at (slots_of p) i t) + leaving + 0 ≤ l.cells
  quiet_cells t e = let a = same_messages t e in let b = set.cells in omega (arith, a, b)

  pub write_made : (n : ℕ) (q : NodeParts) (item : Item) (what : What) → code_kind u (object_at p.heap i) ≡ C.Write item
      → IsChanged u p q i (record (slot_at p i) { state = (coded u).done (slot_at p i).state }) → what ≡ W.Step (L.Write (name_at p.id i) item) 1
      → IsTurned u l n leaving (A.Line what None) p q i
  write_made n q item what k c w =
      let t = record (slot_at p i) { state = (coded u).done (slot_at p i).state } in
      turned u l n leaving (A.Line what None) p q i (λ fresh. moved_line u p q _ (moved u p q i t c) l leaving what None (turn_at u l n fresh p i)
      (turn_is u l n fresh p i (C.Write item) k ∙ ap (λ (z : What). N.Acts z None (put_state (node_of p).state i (slot_at p i) ((coded u).done (slot_at p i).state))) (sym w))
      (quiet_cells t refl))

  pub fault_made : (n : ℕ) (q : NodeParts) (e : Error) (what : What) → code_kind u (object_at p.heap i) ≡ C.Fault e
      → IsChanged u p q i (record (slot_at p i) { state = (coded u).faulted (slot_at p i).state e }) → what ≡ W.Step (L.Fault (name_at p.id i) e) 1
      → IsTurned u l n leaving (A.Line what None) p q i
  fault_made n q e what k c w =
      let t = record (slot_at p i) { state = (coded u).faulted (slot_at p i).state e } in
      turned u l n leaving (A.Line what None) p q i (λ fresh. moved_line u p q _ (moved u p q i t c) l leaving what None (turn_at u l n fresh p i)
      (turn_is u l n fresh p i (C.Fault e) k ∙ ap (λ (z : What). N.Acts z None (put_state (node_of p).state i (slot_at p i) ((coded u).faulted (slot_at p i).state e))) (sym w))
      (quiet_cells t refl))

-- a message that arrives
beyond : {X : Type 0} (xs : List X) (j : ℕ) → length xs ≤ j → slice_get xs j ≡ None
beyond [] j h = refl
beyond (y ∷ xs) zero h = absurd (omega arith)
beyond (y ∷ xs) (suc j) h = beyond xs j (omega (arith, h))

module _ (u : Code) (p : NodeParts) (of : IsOfUnit u (node_of p)) (to : ℕ) where
  pub delivered_there : (q : NodeParts) (a : NumberedArrival) (h : D.slot_of to < length p.heap.objects)
      → IsChanged u p q (D.slot_of to) (record (slot_at p (D.slot_of to)) { mailbox = (slot_at p (D.slot_of to)).mailbox ++ a ∷ [] }) → IsMoved u p q (deliver to a (node_of p).state)
  delivered_there q a h c =
      let m = moved u p q (D.slot_of to) (record (slot_at p (D.slot_of to)) { mailbox = (slot_at p (D.slot_of to)).mailbox ++ a ∷ [] }) c in
      let e = ap (λ (o : Option (Slot Placed)). deliver_in (D.slot_of to) a (node_of p).state o) (slot_real u p of (D.slot_of to) h).here in
      subst (λ (x : NodeState Placed). IsMoved u p q x) (sym e) m

  pub delivered_nowhere : NodeInvariant p → (a : NumberedArrival) → length p.heap.objects ≤ D.slot_of to → IsMoved u p p (deliver to a (node_of p).state)
  delivered_nowhere whole a h =
      let n = slots_length p.heap.objects p.outstanding p.faults p.goals p.mailbox.boxes in
      let k : length (slots_of p) ≤ D.slot_of to = omega (arith, n, h) in
      let e = ap (λ (o : Option (Slot Placed)). deliver_in (D.slot_of to) a (node_of p).state o) (beyond (slots_of p) (D.slot_of to) k) in
      let m : IsMoved u p p (node_of p).state = record { whole = whole; unit = of; is = refl } in
      subst (λ (x : NodeState Placed). IsMoved u p p x) (sym e) m

-- how many messages there are then
module _ (u : Code) (to : ℕ) (a : NumberedArrival) (x : NodeState Placed) where
  pub delivered_length : length (deliver to a x).slots ≡ length x.slots
  delivered_length = by (slice_get x.slots (D.slot_of to))
    where
      by : (o : Option (Slot Placed)) → length (deliver_in (D.slot_of to) a x o).slots ≡ length x.slots
      by None = refl
      by (Some s) = set_length x.slots (D.slot_of to) (record s { mailbox = s.mailbox ++ a ∷ [] })

  pub delivered_frames : frames_in (coded u) (deliver to a x).slots ≡ frames_in (coded u) x.slots
  delivered_frames = by (slice_get x.slots (D.slot_of to)) refl
    where
      by : (o : Option (Slot Placed)) → slice_get x.slots (D.slot_of to) ≡ o → frames_in (coded u) (deliver_in (D.slot_of to) a x o).slots ≡ frames_in (coded u) x.slots
      by None e = refl
      by (Some s) e = let k = frames_set u x.slots (D.slot_of to) s (record s { mailbox = s.mailbox ++ a ∷ [] }) e in omega (arith, k)

  pub delivered_one : D.slot_of to < length x.slots → message_count (deliver to a x).slots ≡ message_count x.slots + 1
  delivered_one h = by (slice_get x.slots (D.slot_of to)) refl
    where
      there : (ys : List (Slot Placed)) (j : ℕ) → j < length ys → slice_get ys j ≡ None → ⊥
      there [] j l e = absurd (omega arith)
      there (y ∷ ys) zero l e = absurd (cc)
      there (y ∷ ys) (suc j) l e = there ys j (omega (arith, l)) e

      by : (o : Option (Slot Placed)) → slice_get x.slots (D.slot_of to) ≡ o → message_count (deliver_in (D.slot_of to) a x o).slots ≡ message_count x.slots + 1
      by None e = absurd (there x.slots (D.slot_of to) h e)
      by (Some s) e =
          let k = messages_set u x.slots (D.slot_of to) s (record s { mailbox = s.mailbox ++ a ∷ [] }) e in
          let n = length_push s.mailbox a in omega (arith, k, n)

  pub delivered_none : length x.slots ≤ D.slot_of to → message_count (deliver to a x).slots ≡ message_count x.slots
  delivered_none h = ap (λ (o : Option (Slot Placed)). message_count (deliver_in (D.slot_of to) a x o).slots) (beyond x.slots (D.slot_of to) h)
