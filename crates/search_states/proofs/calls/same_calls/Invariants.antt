use Rattle.std.proofs.Common.{drop}
use Rattle.search_states.specs.Alike.{AlikeCalls}
use Rattle.search_states.proofs.calls.same_calls.Given as goal

-- if what is left is alike, all is
abbrev pub invariant-loop-i : goal.invariant-loop-i
invariant-loop-i l = AlikeCalls (drop l.i l.left) (drop l.i l.right) → AlikeCalls l.left l.right
