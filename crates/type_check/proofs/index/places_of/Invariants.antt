use Rattle.std.proofs.Common.{take}
use Rattle.type_check.specs.Index.{IsIndex}
use Rattle.type_check.proofs.index.places_of.Given as goal

abbrev pub invariant-loop-i : goal.invariant-loop-i
invariant-loop-i g l = IsIndex g.T.HasName.name l.places (take l.i l.list)
