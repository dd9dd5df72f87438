use Rattle.std.proofs.Common.{sym, ap, subst, ◌∙◌, ◌≡◌, ◌<◌, true, length}
use Rattle.run_types.specs.declared.types.Label.TheVariants as L
use Rattle.run_types.specs.declared.types.What.TheVariants as W
use Rattle.code_semantics.specs.Kinds.{code_kind}
use Rattle.node_heap.specs.Heaps.{HeapOf, object_at}
use Rattle.slot_queues.specs.Mail.{box_of}
use Rattle.mesh_semantics.specs.Act.{can_step}
use Rattle.mesh_of_code.specs.Coded.{kind_of}
use Rattle.node_semantics.specs.Node.{arrivals}
use Rattle.object_interp.specs.declared.types.Need.{Need}
use Rattle.object_interp.specs.declared.types.Hand.TheVariants as H
use Rattle.object_interp.specs.Offers.{hand_of}
use Rattle.node_state.specs.Views.{arrivals_of}
use Rattle.node_state.proofs.Laws.{slot_real}
use Rattle.node_acts.specs.ActOf.{act_of}
use Rattle.node_acts.specs.NodeSteps.{IsSet, IsTurned}
use Rattle.node_turns.proofs.LocalTurn.{begins_local, local_full, local_made, none_local}
use Rattle.node_turns.proofs.turn.slot_turn.Goals as goal

pub burst-requires-clause-fits : goal.burst-requires-clause-fits
burst-requires-clause-fits c = (slot_real c.args.plan.now.unit.now c.args.parts.now c.requires.set.unit c.args.slot c.requires.slot).fits

pub burst-requires-clause-rests : goal.burst-requires-clause-rests
burst-requires-clause-rests c = (slot_real c.args.plan.now.unit.now c.args.parts.now c.requires.set.unit c.args.slot c.requires.slot).rests

pub returns-in-Local : goal.returns-in-Local
returns-in-Local c =
    let kind = begins_local c.args.plan.now.unit.now _ _ c.args.quantum c.in-Local.steps (object_at c.args.parts.now.heap c.args.slot) c.in-Local.ensures.burst.1 c.in-Local.ensures.burst.0 in
    local_made c.args.plan.now.unit.now c.args.plan.now.placement.now c.args.plan.now.leaving c.args.parts.now c.requires.set c.args.slot c.requires.slot c.args.quantum kind c.requires.fault c.in-Local.steps c.burst.new.heap c.refresh.new.self _ c.requires.free
    c.in-Local.ensures.burst c.burst.ensures.fits c.burst.ensures.rests c.refresh.ensures (ap (λ o. W.Step (L.Local o) c.in-Local.steps) c.name_of-object.ensures)

pub returns-in-FramesFull : goal.returns-in-FramesFull
returns-in-FramesFull c =
    local_full c.args.plan.now.unit.now c.args.plan.now.placement.now c.args.plan.now.leaving c.args.parts.now c.requires.set c.args.slot c.requires.slot c.args.quantum c.in-FramesFull.ensures.burst.0 c.requires.fault c.burst.new.heap c.in-FramesFull.ensures.burst c.requires.quantum _
    (ap (λ (z : HeapOf). record c.args.parts.now { heap = z }) c.in-FramesFull.ensures.burst.3)

pub need_turn-requires-clause-set : goal.need_turn-requires-clause-set
need_turn-requires-clause-set c = subst (λ (z : HeapOf). IsSet c.args.plan.now.unit.now c.args.plan.now.placement.now c.args.plan.now.leaving (record c.args.parts.now { heap = z })) (sym c.in-At.ensures.burst.2) c.requires.set

pub need_turn-requires-clause-slot : goal.need_turn-requires-clause-slot
need_turn-requires-clause-slot c = subst (λ (z : HeapOf). c.args.slot < length z.objects) (sym c.in-At.ensures.burst.2) c.requires.slot

pub need_turn-requires-clause-steps : goal.need_turn-requires-clause-steps
need_turn-requires-clause-steps c =
    subst (λ (z : HeapOf). can_step (arrivals (arrivals_of (box_of c.args.parts.now.mailbox c.args.slot))) (kind_of (code_kind c.args.plan.now.unit.now (object_at z c.args.slot))) ≡ true) (sym c.in-At.ensures.burst.2) c.requires.steps

pub need_turn-requires-clause-hand : goal.need_turn-requires-clause-hand
need_turn-requires-clause-hand c =
    subst (λ (z : HeapOf). H.At c.in-At.need ≡ hand_of c.args.plan.now.unit.now (code_kind c.args.plan.now.unit.now (object_at z c.args.slot))) (sym c.in-At.ensures.burst.2)
    (ap (λ (d : Need). H.At d) c.in-At.ensures.burst.1 ∙ none_local c.args.plan.now.unit.now (code_kind c.args.plan.now.unit.now (object_at c.args.parts.now.heap c.args.slot)) c.in-At.ensures.burst.0)

pub returns-in-At : goal.returns-in-At
returns-in-At c =
    subst (λ (z : HeapOf). IsTurned c.args.plan.now.unit.now c.args.plan.now.placement.now c.args.quantum c.args.plan.now.leaving (act_of c.need_turn.result c.need_turn.new.room) (record c.args.parts.now { heap = z }) c.need_turn.new.parts c.args.slot) c.in-At.ensures.burst.2
    (c.need_turn.ensures c.args.quantum)
