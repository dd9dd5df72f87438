-- A whole act of a node, within its limits.
use Rattle.std.proofs.Common.{◌≡◌, refl, sym, ap, ap₂, subst, ◌∙◌, ℕ, ◌+◌, ◌<◌, ◌≤◌, List, length, take, Option, Some, None, Bool, true, arith}
use Rattle.std.specs.Option.{option_map}
use Rattle.run_types.specs.declared.types.What.{What}
use Rattle.run_types.specs.declared.types.Placement.{Placement}
use Rattle.code_semantics.specs.declared.unit.Unit.{Unit as Code}
use Rattle.code_semantics.specs.Kinds.{code_kind}
use Rattle.node_heap.specs.Heaps.{object_at, frames_used}
use Rattle.slot_queues.specs.Mail.{box_of}
use Rattle.mesh_of_code.specs.Coded.{Placed, coded, kind_of}
use Rattle.mesh_semantics.specs.Act.{can_step}
use Rattle.run_types.proofs.Laws.{same_some}
use Rattle.node_semantics.specs.Node as N
use Rattle.node_semantics.specs.Node.{Slot, NodeState, NodeActed, arrivals, can_go, frames_in, message_count, name_at, placed, receipt_act, slot_in_turn, turn_act, turn_of_slot, within_node}
use Rattle.node_semantics.specs.Agrees.{IsUnused}
use Rattle.node_semantics.proofs.Laws.{unused_number}
use Rattle.rendezvous_protocol.specs.declared.packet.Packet.{Packet}
use Rattle.run_types.specs.declared.types.FullKind.{FullKind}
use Rattle.rendezvous_protocol.specs.Packets.{numbered}
use Rattle.node_state.specs.declared.state.NodeParts.{NodeParts}
use Rattle.node_acts.specs.ActOf.{Act}
use Rattle.node_acts.specs.ActOf as A
use Rattle.node_state.specs.NodeOf.{NodeOf}
use Rattle.node_state.specs.OfUnit.{IsOfUnit, IsOfPlacement}
use Rattle.node_turns.specs.Acts.{IsActOf}
use Rattle.node_state.specs.Views.{NodeInvariant, arrivals_of, slots_of, node_of, slot_at}
use Rattle.node_turns.specs.Bits.{bit_in_turn}
use Rattle.node_acts.specs.NodeSteps.{IsSet, IsLine, IsFull, ReportsAct, IsTurned, turn_at, kept}
use Rattle.node_state.proofs.Laws.{slots_length, slot_view, kind_seen}
use Rattle.node_acts.proofs.Laws.{frames_seen, within_fits}
use Rattle.node_turns.proofs.TurnSelection.{turn_bits, in_turn, CanGo, can_go_is}

-- a line, or a limit, within the limits
module _ (u : Code) (l : Placement) (leaving : ℕ) (p r : NodeParts) (at : IsOfPlacement u l (node_of p)) (frames : frames_used r.heap ≤ r.heap.most_frames) (a : NodeActed Placed) where
  pub line_acts : (what : What) (packet : Option Packet) → IsLine u l leaving what packet p r a → IsActOf (A.Line what packet) (node_of p) (node_of r) (within_node (coded u) l leaving a)
  line_acts what packet k =
      let x = (node_of r).state in
      let objects : r.heap.most_objects ≡ l.objects = ap (λ (n : NodeOf). n.most_objects) k.rest ∙ at.objects in
      let most : r.heap.most_frames ≡ l.frames = ap (λ (n : NodeOf). n.most_frames) k.rest ∙ at.frames in
      let o : length x.slots ≤ l.objects =
      let b = slots_length r.heap.objects r.outstanding r.faults r.goals r.mailbox.boxes in let c = k.whole.objects in omega (arith, b, c, objects) in
      let f : frames_in (coded u) x.slots ≤ l.frames = let b = frames_seen u r k.unit in omega (arith, b, frames, most) in
      let e : within_node (coded u) l leaving a ≡ N.Acts what (option_map numbered packet) x =
      ap (λ (z : NodeActed Placed). within_node (coded u) l leaving z) k.is ∙ within_fits (coded u) l leaving what (option_map numbered packet) x o f k.cells in
      subst (λ (z : NodeActed Placed). IsActOf (A.Line what packet) (node_of p) (node_of r) z) (sym e) (refl, refl, k.rest)

  pub full_acts : (kind : FullKind) → IsFull u l leaving kind p r a → IsActOf (A.Full kind) (node_of p) (node_of r) (within_node (coded u) l leaving a)
  full_acts kind k = subst (λ (z : NodeActed Placed). IsActOf (A.Full kind) (node_of p) (node_of r) z) (sym k.full) (refl, ap node_of k.same)

pub made_acts : (u : Code) (l : Placement) (leaving : ℕ) (p r : NodeParts) → NodeInvariant p → IsOfUnit u (node_of p) → IsOfPlacement u l (node_of p) → frames_used r.heap ≤ r.heap.most_frames
    → (a : NodeActed Placed) (act : Act) → ReportsAct u l leaving act p r a
    → IsActOf act (node_of p) (node_of r) (within_node (coded u) l leaving a) × NodeInvariant r × IsOfUnit u (node_of r)
made_acts u l leaving p r whole of at frames a A.Idle k = absurd k
made_acts u l leaving p r whole of at frames a (A.Line what packet) k = (line_acts u l leaving p r at frames a what packet k, k.whole, k.unit)
made_acts u l leaving p r whole of at frames a (A.Full kind) k =
    (full_acts u l leaving p r at frames a kind k, subst (λ (z : NodeParts). NodeInvariant z) (sym k.same) whole, subst (λ (z : NodeParts). IsOfUnit u (node_of z)) (sym k.same) of)

-- the slot in turn
pub record IsInTurn (u : Code) (p : NodeParts) (i : ℕ) : Type 0 where
  pub there : i < length p.heap.objects
  pub turn : slot_in_turn (coded u) p.id (node_of p).state ≡ Some (i, slot_at p i)
  pub go : CanGo (coded u) p.id i (slot_at p i)

pub turn_slot : (u : Code) (p : NodeParts) → IsOfUnit u (node_of p) → (i : ℕ) → bit_in_turn p.last (take (length p.heap.objects) p.ready) ≡ Some i → IsInTurn u p i
turn_slot u p of i h =
    by (slot_in_turn (coded u) p.id (node_of p).state) refl (turn_bits (coded u) p.id (node_of p).state ∙ (ap (λ (bs : List Bool). bit_in_turn p.last bs) (sym of.ready) ∙ h))
  where
    by : (o : Option (ℕ × Slot Placed)) → slot_in_turn (coded u) p.id (node_of p).state ≡ o → option_map (λ (e : ℕ × Slot Placed). e.0) o ≡ Some i → IsInTurn u p i
    by None e k = absurd (cc)
    by (Some d) e k =
        let r = in_turn (coded u) p.id (node_of p).state d e in
        let w = slot_view p d.0 d.1 r.0 in
        let same : d.0 ≡ i = same_some k in
        let there : i < length p.heap.objects = subst (λ (j : ℕ). j < length p.heap.objects) same w.0 in
        let pair : ◌≡◌ {A = ℕ × Slot Placed} d (i, slot_at p i) = ap₂ (λ (j : ℕ) (s : Slot Placed). (j, s)) same (w.1 ∙ ap (λ (j : ℕ). slot_at p j) same) in
        record {
          there = there;
          turn = e ∙ ap (λ (z : ℕ × Slot Placed). Some z) pair;
          go = can_go_is (coded u) p.id i (slot_at p i) (subst (λ (z : ℕ × Slot Placed). can_go (coded u) p.id z ≡ true) pair r.1);
        }

pub no_turn : (u : Code) (l : Placement) (q leaving fresh : ℕ) (p : NodeParts) → IsOfUnit u (node_of p) → bit_in_turn p.last (take (length p.heap.objects) p.ready) ≡ None
    → turn_act (coded u) l q p.id leaving fresh (node_of p).state ≡ N.Idle
no_turn u l q leaving fresh p of h =
    ap (λ (o : Option (ℕ × Slot Placed)). turn_of_slot (coded u) l q p.id leaving fresh (node_of p).state o)
    (by (slot_in_turn (coded u) p.id (node_of p).state) (turn_bits (coded u) p.id (node_of p).state ∙ (ap (λ (bs : List Bool). bit_in_turn p.last bs) (sym of.ready) ∙ h)))
  where
    by : (o : Option (ℕ × Slot Placed)) → option_map (λ (e : ℕ × Slot Placed). e.0) o ≡ None → o ≡ None
    by None e = refl
    by (Some d) e = absurd (cc)

-- no turn is idle, with some number
pub idle_acts : (u : Code) (l : Placement) (q leaving : ℕ) (p : NodeParts) → IsOfUnit u (node_of p) → bit_in_turn p.last (take (length p.heap.objects) p.ready) ≡ None
    → (fresh : ℕ) × IsUnused fresh (node_of p).state × IsActOf A.Idle (node_of p) (node_of p) (turn_act (coded u) l q p.id leaving fresh (node_of p).state)
idle_acts u l q leaving p of h =
    let f = unused_number (node_of p).state in
    (f.0, f.1, subst (λ (a : NodeActed Placed). IsActOf A.Idle (node_of p) (node_of p) a) (sym (no_turn u l q leaving f.0 p of h)) refl)

module _ (u : Code) (l : Placement) (leaving : ℕ) (p : NodeParts) (whole : NodeInvariant p) (of : IsOfUnit u (node_of p)) (at : IsOfPlacement u l (node_of p))
    (cells : message_count (slots_of p) + leaving ≤ l.cells) (i : ℕ) where
  abbrev begun : NodeParts
  begun = record p { last = Some i }

  pub last_whole : (b : Option ℕ) (r : NodeParts) → NodeInvariant r → NodeInvariant (record r { last = b })
  last_whole b r w = record {
    node = w.node;
    cells = w.cells;
    boxes = w.boxes;
    requests = w.requests;
    faults = w.faults;
    goals = w.goals;
    ready = w.ready;
    objects = w.objects;
    few = w.few;
    room = w.room;
    frames = w.frames;
    no_box = w.no_box;
    no_request = w.no_request;
    no_fault = w.no_fault;
    no_goal = w.no_goal;
  }

  pub begun_set : frames_used p.heap ≤ p.heap.most_frames → IsSet u l leaving begun
  begun_set frames = record {
    whole = last_whole (Some i) p whole;
    unit = record { proper = of.proper; vars = of.vars; made = of.made; slots = of.slots; distinct = of.distinct; ready = of.ready; long = of.long };
    placement = record { suits = at.suits; id = at.id; objects = at.objects; frames = at.frames; cells = at.cells };
    cells = cells;
    frames = let e = at.frames in omega (arith, e, frames);
  }

  pub steps_now : IsInTurn u p i → can_step (arrivals (arrivals_of (box_of p.mailbox i))) (kind_of (code_kind u (object_at p.heap i))) ≡ true
  steps_now t = ap (λ k. can_step (arrivals (arrivals_of (box_of p.mailbox i))) k) (sym (kind_seen u p i (name_at p.id i))) ∙ t.go.steps

  abbrev Turned : ℕ → Act → NodeParts → Type 0
  Turned q act r =
      ((fresh : ℕ) × IsUnused fresh (node_of p).state × IsActOf act (node_of p) (node_of r) (turn_act (coded u) l q p.id leaving fresh (node_of p).state)) × NodeInvariant r × IsOfUnit u (node_of r)

  -- the act of a turn
  pub turn_acts : (q : ℕ) (act : Act) (r s : NodeParts) → IsInTurn u p i → IsTurned u l q leaving act begun r i → s ≡ kept act r p.last → frames_used s.heap ≤ s.heap.most_frames → Turned q act s
  turn_acts q act r s t k e frames =
      let f = k.0 in
      let turn : turn_act (coded u) l q p.id leaving f (node_of p).state ≡ within_node (coded u) l leaving (turn_at u l q f begun i) =
      ap (λ (o : Option (ℕ × Slot Placed)). turn_of_slot (coded u) l q p.id leaving f (node_of p).state o) t.turn in
      by act k.2 e turn
    where
      by : (c : Act) → ReportsAct u l leaving c begun r (turn_at u l q k.0 begun i) → s ≡ kept c r p.last
          → turn_act (coded u) l q p.id leaving k.0 (node_of p).state ≡ within_node (coded u) l leaving (turn_at u l q k.0 begun i) → Turned q c s
      by A.Idle m e w = absurd m
      by (A.Line what packet) m e w =
          let at' : IsOfPlacement u l (node_of begun) = record { suits = at.suits; id = at.id; objects = at.objects; frames = at.frames; cells = at.cells } in
          let fr : frames_used r.heap ≤ r.heap.most_frames = subst (λ (z : NodeParts). frames_used z.heap ≤ z.heap.most_frames) e frames in
          let acts = line_acts u l leaving begun r at' fr (turn_at u l q k.0 begun i) what packet m in
          subst (λ (z : NodeParts). Turned q (A.Line what packet) z) (sym e)
          ((k.0, k.1, subst (λ (z : NodeActed Placed). IsActOf (A.Line what packet) (node_of p) (node_of r) z) (sym w) (over (within_node (coded u) l leaving (turn_at u l q k.0 begun i)) acts)), m.whole, m.unit)
        where
          over : (z : NodeActed Placed) → IsActOf (A.Line what packet) (node_of begun) (node_of r) z → IsActOf (A.Line what packet) (node_of p) (node_of r) z
          over N.Idle h = absurd h
          over (N.Acts v d x) h = h
          over (N.Full kind) h = absurd h
          over N.Nothing h = absurd h
      by (A.Full kind) m e w =
          let back : s ≡ p = e ∙ ap (λ (z : NodeParts). record z { last = p.last }) m.same in
          subst (λ (z : NodeParts). Turned q (A.Full kind) z) (sym back)
          ((k.0, k.1, subst (λ (z : NodeActed Placed). IsActOf (A.Full kind) (node_of p) (node_of p) z) (sym (w ∙ m.full)) (refl, refl)), whole, of)
