use Rattle.std.proofs.Common.{take}
use Rattle.pool_relation.specs.Transition.{names_method}
use Rattle.message_queue.specs.Stamps.{IsLeastFor}
use Rattle.message_queue.proofs.index.stamp_named.Given as goal

abbrev pub invariant-loop-named : goal.invariant-loop-named
invariant-loop-named l = IsLeastFor (names_method (take l.named-index l.names)) l.index l.least
