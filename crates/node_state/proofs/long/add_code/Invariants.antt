use Rattle.std.proofs.Common.{◌≡◌, slice_get}
use Rattle.code_semantics.specs.declared.unit.Unit.{Unit as Code}
use Rattle.code_semantics.specs.Frames.{code_of}
use Rattle.node_state.specs.LongAnswers.{AreLongBefore}
use Rattle.node_state.proofs.long.add_code.Given as goal

abbrev pub invariant-loop-at : goal.invariant-loop-at
invariant-loop-at l = (u : Code) → code_of (slice_get u.classes l.place.class) l.place.method ≡ l.code → AreLongBefore u (record l.place { at = 0; alt = 0 }) l.fn.found → AreLongBefore u (record l.place { at = l.at; alt = 0 }) l.found
