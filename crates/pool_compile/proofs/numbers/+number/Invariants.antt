use Rattle.std.proofs.Common.{length}
use Rattle.pool_compile.proofs.numbers.+number.Given as goal

abbrev pub decreases-number : goal.decreases-number
decreases-number l = length l.names.now
