use Rattle.std.proofs.Common.{◌≡◌, ◌-◌, slice_get}
use Rattle.code_typing.specs.StackEffects.{stack_of}
use Rattle.code_typing.proofs.cell.Stacks.sort_below.Given as goal

-- the operand is so many less below the last of what is left
abbrev pub invariant-loop : goal.invariant-loop
invariant-loop l = slice_get (stack_of l.self l.rest) (l.count - l.counter) ≡ slice_get (stack_of l.self l.stack) l.count
