use Rattle.std.proofs.Common.{arith}
use Rattle.node_state.specs.Views.{arrival_of}
use Rattle.node_acts.proofs.StepFromChanges.{delivered_there, delivered_nowhere}
use Rattle.node_acts.proofs.acts.deliver_to.Goals as goal

pub returns-then-slot-objects : goal.returns-then-slot-objects
returns-then-slot-objects c =
    delivered_there c.args.unit.now c.args.parts.now c.requires.unit c.args.to c.deliver.new.self (arrival_of c.args.message) (omega arith) (rw c.slot_of-slot.ensures.slot at c.deliver.ensures)

pub returns-else-slot-objects : goal.returns-else-slot-objects
returns-else-slot-objects c = delivered_nowhere c.args.unit.now c.args.parts.now c.requires.unit c.args.to c.requires.whole (arrival_of c.args.message) (omega arith)
