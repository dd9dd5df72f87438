use Rattle.std.proofs.Common.{Some, None}
use Rattle.node_state.specs.LongAnswers.{AreLongBefore}
use Rattle.node_state.proofs.long.long_answers.Given as goal

abbrev pub invariant-loop-class : goal.invariant-loop-class
invariant-loop-class l = AreLongBefore l.unit (record { class = l.class; method = None; at = 0; alt = 0 }) l.found

abbrev pub invariant-loop-method : goal.invariant-loop-method
invariant-loop-method l = AreLongBefore l.unit (record { class = l.class; method = Some l.method; at = 0; alt = 0 }) l.found
