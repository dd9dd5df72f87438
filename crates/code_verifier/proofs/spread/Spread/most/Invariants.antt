use Rattle.std.proofs.Common.{◌≡◌, map, drop}
use Rattle.std.specs.Prelude.{max}
use Rattle.code_typing.specs.Verdict.{most}
use Rattle.code_typing.specs.StackEffects.{stack_at}
use Rattle.code_verifier.proofs.spread.Spread.most.Given as goal

-- the most of what was seen and of what is left
abbrev pub invariant-loop-stack : goal.invariant-loop-stack
invariant-loop-stack l = max l.most (most (map (stack_at l.self.stacks) (drop l.stack-index l.self.table.items))) ≡ most (map (stack_at l.self.stacks) l.self.table.items)
