use Rattle.std.proofs.Common.{◌≡◌, length}
use Rattle.test_parts.proofs.requests.put_turns.Given as goal

abbrev pub invariant-loop-slot : goal.invariant-loop-slot
invariant-loop-slot l = length l.out ≡ 3
