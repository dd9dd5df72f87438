use Rattle.std.proofs.Common.{◌≡◌}
use Rattle.code_typing.specs.Verdict.{stacks_equal}
use Rattle.code_typing.specs.StackEffects.{stack_of}
use Rattle.code_typing.proofs.cell.Stacks.are_equal.Given as goal

-- the operands so far are of the same sorts
abbrev pub invariant-loop-cell : goal.invariant-loop-cell
invariant-loop-cell l = stacks_equal (stack_of l.self l.one) (stack_of l.self l.other) ≡ stacks_equal (stack_of l.self l.fn.one) (stack_of l.self l.fn.other)

abbrev pub decreases-loop-cell : goal.decreases-loop-cell
decreases-loop-cell l = l.one
