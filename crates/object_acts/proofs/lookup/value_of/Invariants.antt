use Rattle.std.proofs.Common.{◌≡◌, length}
use Rattle.pool_relation.specs.Action.{value_of}
use Rattle.object_acts.proofs.lookup.value_of.Given as goal

abbrev pub invariant-loop-first : goal.invariant-loop-first
invariant-loop-first l = value_of l.rest l.name ≡ value_of l.initial.rest l.name

abbrev pub decreases-loop-first : goal.decreases-loop-first
decreases-loop-first l = length l.rest
