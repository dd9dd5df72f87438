use Rattle.std.proofs.Common.{◌≡◌, ◌++◌, length}
use Rattle.pool_relation.specs.Action.{nil_store}
use Rattle.stepper_terms.proofs.changes.add_locals.Given as goal

abbrev pub invariant-loop-first : goal.invariant-loop-first
invariant-loop-first l = l.temps.items ++ nil_store l.rest ≡ l.initial.temps.items ++ nil_store l.initial.rest

abbrev pub decreases-loop-first : goal.decreases-loop-first
decreases-loop-first l = length l.rest
