use Rattle.std.proofs.Common.{◌≡◌, length, map}
use Rattle.pool_syntax.specs.Classes.{named_method}
use Rattle.pool_syntax.specs.TreeOf.{method_tree}
use Rattle.object_acts.proofs.lookup.find_named.Given as goal

abbrev pub invariant-loop-first : goal.invariant-loop-first
invariant-loop-first l = named_method (map method_tree l.rest) l.name ≡ named_method (map method_tree l.initial.rest) l.name

abbrev pub decreases-loop-first : goal.decreases-loop-first
decreases-loop-first l = length l.rest
