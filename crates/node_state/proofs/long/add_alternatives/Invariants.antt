use Rattle.std.proofs.Common.{◌≡◌, ◌+◌, Some}
use Rattle.code_semantics.specs.declared.unit.Instr.TheVariants.{Select}
use Rattle.code_semantics.specs.declared.unit.Unit.{Unit as Code}
use Rattle.node_state.specs.LongAnswers.{instr_at, AreLongBefore}
use Rattle.node_state.proofs.long.add_alternatives.Given as goal

abbrev pub invariant-loop-before : goal.invariant-loop-before
invariant-loop-before l = (u : Code) → instr_at u l.place ≡ Some (Select l.alts) → AreLongBefore u (record l.place { alt = 1 }) l.fn.found → AreLongBefore u (record l.place { alt = l.before + 1 }) l.found
