use Rattle.std.proofs.Common.{arith}
use Rattle.node_acts.proofs.acts.lacks.Goals.{else-node_of-parts-via-then-node_of-parts+else-slot_of-objects, else-node_of-parts-via-else-node_of-parts}
use Rattle.node_state.specs.Views.{node_of}
use Rattle.node_state.proofs.Laws.{slots_length}
use Rattle.node_acts.proofs.PostStep.{lacks_not_there, lacks_if}
use Rattle.node_acts.proofs.acts.lacks.Goals as goal

pub returns-then-slot_of-objects : goal.returns-then-slot_of-objects
returns-then-slot_of-objects c =
    let n = slots_length c.args.parts.now.heap.objects c.args.parts.now.outstanding c.args.parts.now.faults c.args.parts.now.goals c.args.parts.now.mailbox.boxes in
    lacks_not_there c.args.plan.now.placement.now c.args.plan.now.leaving (node_of c.args.parts.now) c.args.to (omega arith) (omega (arith, n))

pub returns : goal.returns
returns c =
    let n = slots_length c.args.parts.now.heap.objects c.args.parts.now.outstanding c.args.parts.now.faults c.args.parts.now.goals c.args.parts.now.mailbox.boxes in
    lacks_if c.args.plan.now.placement.now c.args.plan.now.leaving (node_of c.args.parts.now) c.args.to c.no_cell.result c.no_cell.ensures
    (λ e. elim c.else-node_of-parts.branch [ else-node_of-parts-via-then-node_of-parts+else-slot_of-objects w ↦ omega (arith, n, e) | else-node_of-parts-via-else-node_of-parts w ↦ absurd (omega (arith, e)) ])
