use Rattle.std.proofs.Common.{arith}
use Rattle.linked_cells.proofs.queue.join_next.Goals as goal

pub set_next-requires : goal.set_next-requires
set_next-requires g c = c.requires (omega (arith, c.if-before-eq0.false))
