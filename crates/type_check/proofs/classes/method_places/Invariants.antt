use Rattle.std.proofs.Common.{◌≡◌, length}
use Rattle.type_check.specs.Index.{AreIndexes}
use Rattle.type_check.proofs.classes.method_places.Given as goal

abbrev pub invariant-loop-class : goal.invariant-loop-class
invariant-loop-class l = (length l.all.items ≡ l.class-index) × AreIndexes l.all.items l.classes
