use Rattle.std.proofs.Common.{◌≡◌, length, map}
use Rattle.pool_syntax.specs.Classes.{class_of}
use Rattle.pool_syntax.specs.TreeOf.{class_tree}
use Rattle.object_acts.proofs.lookup.find_class.Given as goal

abbrev pub invariant-loop-first : goal.invariant-loop-first
invariant-loop-first l = class_of (map class_tree l.rest) l.name ≡ class_of (map class_tree l.initial.rest) l.name

abbrev pub decreases-loop-first : goal.decreases-loop-first
decreases-loop-first l = length l.rest
