-- The posting of messages.
use Rattle.std.proofs.Common.{◌≡◌, refl, sym, ap, ap₂, subst, ◌∙◌, ℕ, ◌+◌, ◌<◌, ◌≤◌, ◌==◌, ◌&&◌, ◌||◌, not, List, [], ◌∷◌, length, Option, Some, None, Bool, true, false, if◌then◌else◌, arith, ltb-true}
use Rattle.std.specs.Prelude.{nat_lt, nat_le}
use Rattle.std.proofs.lemmas.Bool.Decides.{nat_tests}
use Rattle.run_types.specs.declared.types.Value.{Value}
use Rattle.run_types.specs.declared.types.NameId.{NameId}
use Rattle.run_types.specs.declared.types.Label.TheVariants as L
use Rattle.run_types.specs.declared.types.What.{What}
use Rattle.run_types.specs.declared.types.What.TheVariants as W
use Rattle.run_types.specs.declared.types.FullKind.TheVariants as F
use Rattle.run_types.specs.declared.types.Placement.{Placement}
use Rattle.run_types.specs.declared.frames.Frame.{Frame}
use Rattle.code_semantics.specs.declared.unit.Unit.{Unit as Code}
use Rattle.code_semantics.specs.Kinds as C
use Rattle.code_semantics.specs.Kinds.{code_kind}
use Rattle.node_heap.specs.Heaps.{object_at}
use Rattle.slot_queues.specs.declared.Message.{Message}
use Rattle.slot_queues.specs.Mail.{lengths}
use Rattle.mesh_of_code.specs.Coded.{Placed, coded, under_way}
use Rattle.run_types.specs.ObjectNames as D
use Rattle.run_types.proofs.Laws.{equal, equals}
use Rattle.node_semantics.specs.Node as N
use Rattle.mesh_semantics.specs.NumberedPackets as NDelay
use Rattle.node_semantics.specs.Node.{Slot, NodeState, NodeActed, deliver, frames_in, message_count, name_at, put_state, put_request, set_at, within_node}
use Rattle.node_semantics.specs.Agrees.{IsUnused}
use Rattle.node_semantics.proofs.Laws.{set_length}
use Rattle.rendezvous_protocol.specs.declared.packet.Packet.{Packet}
use Rattle.node_state.specs.declared.state.NodeParts.{NodeParts}
use Rattle.node_acts.specs.ActOf as A
use Rattle.node_state.specs.NodeOf.{NodeOf}
use Rattle.node_state.specs.Views.{arrival_of, slots_of, node_of, slot_at}
use Rattle.node_state.specs.Changes.{IsChanged}
use Rattle.node_acts.specs.NodeSteps.{IsSet, IsLine, IsTurned, IsMoved, packet_by, posted, lacks_cell}
use Rattle.node_state.proofs.Laws.{slots_length, length_gone_on}
use Rattle.node_acts.proofs.NodeLimits.{messages_seen, frames_seen, frames_set, within_cells}
use Rattle.node_acts.proofs.StepFromChanges.{moved, moved_state, moved_id, moved_line, line_after, turn_is, turned, here, same_messages, delivered_length, delivered_frames, delivered_one, delivered_none}

-- the tests
lacks_by : (a b c : Bool) → ((not a || b) && not c) ≡ false → (a ≡ true → b ≡ true → c ≡ true) × (a ≡ false → c ≡ true)
lacks_by true true true e = (λ f g. refl, λ f. refl)
lacks_by true true false e = absurd (cc)
lacks_by true false c e = (λ f g. absurd (cc), λ f. absurd (cc))
lacks_by false b true e = (λ f g. refl, λ f. refl)
lacks_by false b false e = absurd (cc)

lacks_not : (a b c : Bool) → ((not a || b) && not c) ≡ true → (c ≡ false) × (a ≡ true → b ≡ true)
lacks_not true true true e = absurd (cc)
lacks_not true true false e = (refl, λ f. refl)
lacks_not true false c e = absurd (cc)
lacks_not false b true e = absurd (cc)
lacks_not false b false e = (refl, λ f. absurd (cc))

pub lt_not : (a b : ℕ) → nat_lt a b ≡ false → b ≤ a
lt_not a b h = grind (arith, nat_tests)

pub lt_is : (a b : ℕ) → a < b → nat_lt a b ≡ true
lt_is a b h = grind (arith, nat_tests)

pub lt_isnt : (a b : ℕ) → b ≤ a → nat_lt a b ≡ false
lt_isnt a b h = grind (arith, nat_tests)

pub same_eq : (a b : ℕ) → a ≡ b → (a == b) ≡ true
same_eq a b e = subst (λ (z : ℕ). (a == z) ≡ true) e (equals a)

module _ (l : Placement) (leaving : ℕ) (n : NodeOf) (to : ℕ) where
  pub has_room : lacks_cell l leaving n to ≡ false → D.node_of to ≡ n.id → D.slot_of to < length n.state.slots → message_count n.state.slots + leaving < l.cells
  has_room h e k =
      ltb-true (message_count n.state.slots + leaving) l.cells ((lacks_by (D.node_of to == n.id) (nat_lt (D.slot_of to) (length n.state.slots)) (nat_lt (message_count n.state.slots + leaving) l.cells) h).0
      (same_eq (D.node_of to) n.id e) (lt_is (D.slot_of to) (length n.state.slots) k))

  pub has_way : lacks_cell l leaving n to ≡ false → (D.node_of to == n.id) ≡ false → message_count n.state.slots + leaving < l.cells
  has_way h e =
      ltb-true (message_count n.state.slots + leaving) l.cells ((lacks_by (D.node_of to == n.id) (nat_lt (D.slot_of to) (length n.state.slots)) (nat_lt (message_count n.state.slots + leaving) l.cells) h).1 e)

  pub has_none : lacks_cell l leaving n to ≡ true → (l.cells ≤ message_count n.state.slots + leaving) × ((D.node_of to == n.id) ≡ true → D.slot_of to < length n.state.slots)
  has_none h =
      let w = lacks_not (D.node_of to == n.id) (nat_lt (D.slot_of to) (length n.state.slots)) (nat_lt (message_count n.state.slots + leaving) l.cells) h in
      (lt_not (message_count n.state.slots + leaving) l.cells w.0, λ e. ltb-true (D.slot_of to) (length n.state.slots) (w.1 e))

  pub lacks_not_there : D.node_of to ≡ n.id → length n.state.slots ≤ D.slot_of to → false ≡ lacks_cell l leaving n to
  lacks_not_there e k = rw (same_eq (D.node_of to) n.id e, lt_isnt (D.slot_of to) (length n.state.slots) k) refl

  pub lacks_if : (r : Bool) → r ≡ not (nat_lt (message_count n.state.slots + leaving) l.cells) → ((D.node_of to ≡ n.id → D.slot_of to < length n.state.slots)) → r ≡ lacks_cell l leaving n to
  lacks_if r e k = e ∙ by (D.node_of to == n.id) refl
    where
      by : (b : Bool) → (D.node_of to == n.id) ≡ b → not (nat_lt (message_count n.state.slots + leaving) l.cells) ≡ lacks_cell l leaving n to
      by true f = rw (f, lt_is (D.slot_of to) (length n.state.slots) (k (equal (D.node_of to) n.id f))) refl
      by false f = rw f refl

-- a message to an object of the node
pub posted_here : (u : Code) (l : Placement) (leaving : ℕ) (what : What) (p q : NodeParts) (to : ℕ) (m : Message) → D.node_of to ≡ p.id
    → IsMoved u p q (deliver to (arrival_of m) (node_of p).state) → message_count (slots_of p) + leaving ≤ l.cells → lacks_cell l leaving (node_of p) to ≡ false
    → IsLine u l leaving what None p q (posted what to m p.id (node_of p).state)
posted_here u l leaving what p q to m e k cells has =
    let a = arrival_of m in
    moved_line u p q (deliver to a (node_of p).state) k l leaving what None (posted what to m p.id (node_of p).state)
    (ap (λ (b : Bool). if b then N.Acts what None (deliver to a (node_of p).state)
    else N.Acts what (Some (record { number = a.number; packet = packet_by m.call m.from to m.method.0 m.args })) (node_of p).state) (same_eq (D.node_of to) p.id e))
    (by (nat_lt (D.slot_of to) (length (slots_of p))) refl)
  where
    by : (b : Bool) → nat_lt (D.slot_of to) (length (slots_of p)) ≡ b → message_count (deliver to (arrival_of m) (node_of p).state).slots + leaving + 0 ≤ l.cells
    by true t =
        let h = ltb-true (D.slot_of to) (length (slots_of p)) t in
        let c = delivered_one u to (arrival_of m) (node_of p).state h in
        let r = has_room l leaving (node_of p) to has e h in omega (arith, c, r)
    by false t = let c = delivered_none u to (arrival_of m) (node_of p).state (lt_not (D.slot_of to) (length (slots_of p)) t) in omega (arith, c, cells)

pub under_le : (fs gs : List Frame) → length fs ≤ length gs → under_way fs ≤ under_way gs
under_le [] gs h = omega arith
under_le (f ∷ fs) [] h = absurd (omega arith)
under_le (f ∷ fs) (g ∷ gs) h = omega (arith, h)

-- where the slot of the object that posts is changed first
module _ (u : Code) (l : Placement) (leaving : ℕ) (p : NodeParts) (set : IsSet u l leaving p) (i : ℕ) (h : i < length p.heap.objects)
    (t : Slot Placed) (same : length t.mailbox ≡ length (slot_at p i).mailbox) where
  abbrev after : NodeState Placed
  after = record (node_of p).state { slots = set_at (slots_of p) i t }

  pub within_objects : length after.slots ≤ l.objects
  within_objects =
      let a = set_length (slots_of p) i t in
      let b = slots_length p.heap.objects p.outstanding p.faults p.goals p.mailbox.boxes in
      let c = set.whole.objects in let d = set.placement.objects in omega (arith, a, b, c, d)

  pub within_less : under_way t.state.object.frames ≤ under_way (slot_at p i).state.object.frames → frames_in (coded u) after.slots ≤ l.frames
  within_less less =
      let a = frames_set u (slots_of p) i (slot_at p i) t (here u l leaving p set i h) in
      let b = frames_seen u p set.unit in let c = set.frames in omega (arith, a, b, c, less)

  pub posted_full : (what : What) (to : ℕ) (m : Message) → under_way t.state.object.frames ≤ under_way (slot_at p i).state.object.frames
      → lacks_cell l leaving (node_of p) to ≡ true → within_node (coded u) l leaving (posted what to m p.id after) ≡ N.Full F.Cells
  posted_full what to m less lacks = by (D.node_of to == p.id) refl
    where
      by : (b : Bool) → (D.node_of to == p.id) ≡ b → within_node (coded u) l leaving (posted what to m p.id after) ≡ N.Full F.Cells
      by true e =
          let none = has_none l leaving (node_of p) to lacks in
          let n = set_length (slots_of p) i t in
          let k = none.1 e in
          let a = arrival_of m in
          let x = deliver to a after in
          let there : D.slot_of to < length after.slots = omega (arith, n, k) in
          let c₀ = delivered_length u to a after in
          let c₁ = delivered_frames u to a after in
          let c₂ = delivered_one u to a after there in
          let c₃ = same_messages u l leaving p set i h t same in
          let o = within_objects in let f = within_less less in let z = none.0 in
          let o' : length x.slots ≤ l.objects = omega (arith, c₀, o) in
          let f' : frames_in (coded u) x.slots ≤ l.frames = omega (arith, c₁, f) in
          let z' : l.cells < message_count x.slots + leaving + 0 = omega (arith, c₂, c₃, z) in
          ap (λ (b : Bool). within_node (coded u) l leaving (if b then N.Acts what None x
          else N.Acts what (Some (record { number = a.number; packet = packet_by m.call m.from to m.method.0 m.args })) after)) e
          ∙ within_cells (coded u) l leaving what None x o' f' z'
      by false e =
          let none = has_none l leaving (node_of p) to lacks in
          let a = arrival_of m in
          let pk : Option NDelay.NumberedPacket = Some (record { number = a.number; packet = packet_by m.call m.from to m.method.0 m.args }) in
          let c₃ = same_messages u l leaving p set i h t same in
          let z = none.0 in
          let z' : l.cells < message_count after.slots + leaving + 1 = omega (arith, c₃, z) in
          ap (λ (b : Bool). within_node (coded u) l leaving (if b then N.Acts what None (deliver to a after) else N.Acts what pk after)) e
          ∙ within_cells (coded u) l leaving what pk after within_objects (within_less less) z'

  module _ (q : NodeParts) (c : IsChanged u p q i t) where
    abbrev mid : IsMoved u p q after
    mid = moved u p q i t c

    count_kept : message_count (slots_of q) ≡ message_count (slots_of p)
    count_kept = ap (λ (x : NodeState Placed). message_count x.slots) (moved_state u p q after mid) ∙ same_messages u l leaving p set i h t same

    slots_kept : length (slots_of q) ≡ length (slots_of p)
    slots_kept = ap (λ (x : NodeState Placed). length x.slots) (moved_state u p q after mid) ∙ set_length (slots_of p) i t

    pub cells_kept : message_count (slots_of q) + leaving ≤ l.cells
    cells_kept = let a = count_kept in let b = set.cells in omega (arith, a, b)

    pub lacks_kept : (to : ℕ) → lacks_cell l leaving (node_of p) to ≡ false → lacks_cell l leaving (node_of q) to ≡ false
    lacks_kept to e =
        ap (λ (n : ℕ). (not (D.node_of to == n) || nat_lt (D.slot_of to) (length (slots_of q))) && not (nat_lt (message_count (slots_of q) + leaving) l.cells)) (moved_id u p q after mid)
        ∙ (ap₂ (λ (n k : ℕ). (not (D.node_of to == p.id) || nat_lt (D.slot_of to) n) && not (nat_lt (k + leaving) l.cells)) slots_kept count_kept ∙ e)

    pub room_kept : (to : ℕ) → lacks_cell l leaving (node_of p) to ≡ false
        → D.node_of to ≡ q.id → D.slot_of to < length q.heap.objects → lengths q.mailbox.boxes < q.mailbox.cells
    room_kept to e n k =
        let s = slots_length q.heap.objects q.outstanding q.faults q.goals q.mailbox.boxes in
        let there : D.slot_of to < length (slots_of q) = omega (arith, s, k) in
        let r = has_room l leaving (node_of q) to (lacks_kept to e) n there in
        let z = messages_seen q c.whole in
        let w : q.mailbox.cells ≡ l.cells = ap (λ (v : NodeOf). v.most_cells) mid.is ∙ set.placement.cells in
        omega (arith, r, z, w)

module _ (u : Code) (l : Placement) (leaving : ℕ) (p : NodeParts) (set : IsSet u l leaving p) (i : ℕ) (h : i < length p.heap.objects) (to : ℕ) (method : NameId) (args : List Value) where
  abbrev s : Slot Placed
  s = slot_at p i

  abbrev o : ℕ
  o = name_at p.id i

  abbrev message : ℕ → Option ℕ → Message
  message from call = record { from = from; method = method; args = args; call = call }

  gone : under_way ((coded u).done s.state).object.frames ≤ under_way s.state.object.frames
  gone = under_le ((coded u).done s.state).object.frames s.state.object.frames (length_gone_on u s.state.object)

  pub async_made : (n : ℕ) (q r : NodeParts) (what : What) (packet : Option Packet) (from : ℕ) → code_kind u (object_at p.heap i) ≡ C.Async to method args
      → IsChanged u p q i (record s { state = (coded u).done s.state }) → what ≡ W.Step (L.Send o to method args) 1 → from ≡ o
      → IsLine u l leaving what packet q r (posted what to (message from None) q.id (node_of q).state)
      → IsTurned u l n leaving (A.Line what packet) p r i
  async_made n q r what packet from k c w e line =
      let t = record s { state = (coded u).done s.state } in
      let m = moved u p q i t c in
      let line₁ = subst (λ (z : ℕ). IsLine u l leaving what packet q r (posted what to (message z None) q.id (node_of q).state)) e line in
      let line₂ = subst (λ (z : ℕ). IsLine u l leaving what packet q r (posted what to (message o None) z (node_of q).state)) (moved_id u p q _ m) line₁ in
      let line₃ = line_after u p q _ m l leaving what packet r (λ x. posted what to (message o None) p.id x) line₂ in
      turned u l n leaving (A.Line what packet) p r i (λ fresh.
      let f = turn_is u l n fresh p i (C.Async to method args) k ∙ ap (λ (z : What). posted z to (message o None) p.id (put_state (node_of p).state i s ((coded u).done s.state))) (sym w) in
      subst (λ (a : NodeActed Placed). IsLine u l leaving what packet p r a) (sym f) line₃)

  pub async_full : (n : ℕ) → code_kind u (object_at p.heap i) ≡ C.Async to method args → lacks_cell l leaving (node_of p) to ≡ true
      → IsTurned u l n leaving (A.Full F.Cells) p p i
  async_full n k lacks =
      turned u l n leaving (A.Full F.Cells) p p i (λ fresh. record {
        same = refl;
        full =
            ap (λ (a : NodeActed Placed). within_node (coded u) l leaving a) (turn_is u l n fresh p i (C.Async to method args) k)
            ∙ posted_full u l leaving p set i h (record s { state = (coded u).done s.state }) refl (W.Step (L.Send o to method args) 1) to (message o None) gone lacks;
      })

  pub call_made : (n : ℕ) (q r : NodeParts) (what : What) (packet : Option Packet) (from number goal : ℕ) → code_kind u (object_at p.heap i) ≡ C.Send to method args
      → IsUnused number (node_of p).state → goal ≡ s.goal
      → IsChanged u p q i (record s { request = Some number; goal = goal }) → what ≡ W.PostCall o to method args → from ≡ o
      → IsLine u l leaving what packet q r (posted what to (message from (Some number)) q.id (node_of q).state)
      → IsTurned u l n leaving (A.Line what packet) p r i
  call_made n q r what packet from number goal k unused g c w e line =
      let t = record s { request = Some number; goal = goal } in
      let m = moved u p q i t c in
      let line₁ = subst (λ (z : ℕ). IsLine u l leaving what packet q r (posted what to (message z (Some number)) q.id (node_of q).state)) e line in
      let line₂ = subst (λ (z : ℕ). IsLine u l leaving what packet q r (posted what to (message o (Some number)) z (node_of q).state)) (moved_id u p q _ m) line₁ in
      let line₃ = line_after u p q _ m l leaving what packet r (λ x. posted what to (message o (Some number)) p.id x) line₂ in
      let line₄ = subst (λ (z : ℕ). IsLine u l leaving what packet p r (posted what to (message o (Some number)) p.id (put_request (node_of p).state i s number z))) g line₃ in
      let f = turn_is u l n number p i (C.Send to method args) k ∙ ap (λ (z : What). posted z to (message o (Some number)) p.id (put_request (node_of p).state i s number s.goal)) (sym w) in
      (number, unused, subst (λ (a : NodeActed Placed). IsLine u l leaving what packet p r a) (sym f) line₄)

  pub call_full : (n : ℕ) → code_kind u (object_at p.heap i) ≡ C.Send to method args → lacks_cell l leaving (node_of p) to ≡ true
      → IsTurned u l n leaving (A.Full F.Cells) p p i
  call_full n k lacks =
      turned u l n leaving (A.Full F.Cells) p p i (λ fresh. record {
        same = refl;
        full =
            ap (λ (a : NodeActed Placed). within_node (coded u) l leaving a) (turn_is u l n fresh p i (C.Send to method args) k)
            ∙ posted_full u l leaving p set i h (record s { request = Some fresh }) refl (W.PostCall o to method args) to (message o (Some fresh)) (let z : under_way s.state.object.frames ≤ under_way s.state.object.frames = omega arith in z) lacks;
      })

pub le_not : (a b : ℕ) → nat_le a b ≡ not (nat_lt b a)
le_not a b = by (nat_lt b a) refl
  where
    by : (t : Bool) → nat_lt b a ≡ t → nat_le a b ≡ not t
    by true e = let w = ltb-true b a e in grind (arith, nat_tests)
    by false e = let w = lt_not b a e in grind (arith, nat_tests)
