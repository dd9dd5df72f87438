use Rattle.std.proofs.Common.{◌≡◌, Some}
use Rattle.std.specs.Prelude.{replicate}
use Rattle.run_types.specs.declared.types.Kind.TheVariants as K
use Rattle.code_typing.specs.Sorts.{pop_arguments}
use Rattle.code_typing.specs.StackEffects.{Holds, stack_of}
use Rattle.code_typing.proofs.cell.Stacks.pop_guards.Given as goal

-- so many truth values are gone
abbrev pub invariant-loop : goal.invariant-loop
invariant-loop l = (pop_arguments (replicate l.counter K.Bool) (stack_of l.self l.stack) ≡ Some (stack_of l.self l.rest)) × Holds l.self l.rest
