-- The operand with some others above it is the last operand after those are dropped.
use Rattle.std.proofs.Common.{◌∙◌}
use Rattle.node_heap.specs.Heaps.{top_at}
use Rattle.object_interp.proofs.Operands.{nth_top}
use Rattle.object_interp.proofs.read.value_at.Goals as goal

pub returns : goal.returns
returns c = c.operand.ensures ∙ nth_top c.args.above (top_at c.args.heap.now c.args.slot).operands
