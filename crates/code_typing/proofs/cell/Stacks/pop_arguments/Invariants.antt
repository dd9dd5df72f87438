use Rattle.std.proofs.Common.{◌≡◌, drop, Some}
use Rattle.code_typing.specs.Sorts.{pop_arguments}
use Rattle.code_typing.specs.StackEffects.{Holds, stack_of}
use Rattle.code_typing.proofs.cell.Stacks.pop_arguments.Given as goal

-- the arguments for the parameters from this one on are gone
abbrev pub invariant-loop-i : goal.invariant-loop-i
invariant-loop-i l = (pop_arguments (drop l.i l.params) (stack_of l.self l.stack) ≡ Some (stack_of l.self l.rest)) × Holds l.self l.rest
