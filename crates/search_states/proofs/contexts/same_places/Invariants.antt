use Rattle.std.proofs.Common.{drop}
use Rattle.search_states.specs.Alike.{AlikePlaces}
use Rattle.search_states.proofs.contexts.same_places.Given as goal

-- if what is left is alike, all is
abbrev pub invariant-loop-i : goal.invariant-loop-i
invariant-loop-i l = AlikePlaces (drop l.i l.left) (drop l.i l.right) → AlikePlaces l.left l.right
