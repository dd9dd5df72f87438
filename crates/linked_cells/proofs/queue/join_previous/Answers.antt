use Rattle.std.proofs.Common.{arith}
use Rattle.linked_cells.proofs.queue.join_previous.Goals as goal

pub set_previous-requires : goal.set_previous-requires
set_previous-requires g c = c.requires (omega (arith, c.if-after-eq0.false))
