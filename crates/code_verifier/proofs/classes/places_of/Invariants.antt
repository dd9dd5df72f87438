use Rattle.std.proofs.Common.{drop}
use Rattle.code_verifier.specs.Indexed.{IsIndexFrom}
use Rattle.code_verifier.proofs.classes.places_of.Given as goal

-- the map has the first place of each name among the classes from this place on
abbrev pub invariant-loop-i : goal.invariant-loop-i
invariant-loop-i l = IsIndexFrom l.i l.places (drop l.i l.classes)
