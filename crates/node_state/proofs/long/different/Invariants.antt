use Rattle.std.proofs.Common.{take}
use Rattle.node_state.specs.LongAnswers.{AreEachOnce}
use Rattle.node_state.proofs.long.different.Given as goal

abbrev pub invariant-loop-name : goal.invariant-loop-name
invariant-loop-name l = AreEachOnce l.once (take l.name-index l.names)
