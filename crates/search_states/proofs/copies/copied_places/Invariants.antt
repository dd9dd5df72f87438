use Rattle.std.proofs.Common.{◌++◌, drop}
use Rattle.search_states.specs.Alike.{AlikePlaces}
use Rattle.search_states.proofs.copies.copied_places.Given as goal

-- what was copied, with what is left
abbrev pub invariant-loop-place : goal.invariant-loop-place
invariant-loop-place l = AlikePlaces (l.copied.items ++ drop l.place-index l.places) l.places
