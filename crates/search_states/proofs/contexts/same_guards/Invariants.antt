use Rattle.std.proofs.Common.{drop}
use Rattle.search_states.specs.Alike.{AlikeGuards}
use Rattle.search_states.proofs.contexts.same_guards.Given as goal

-- if what is left is alike, all is
abbrev pub invariant-loop-i : goal.invariant-loop-i
invariant-loop-i l = AlikeGuards (drop l.i l.left) (drop l.i l.right) → AlikeGuards l.left l.right
