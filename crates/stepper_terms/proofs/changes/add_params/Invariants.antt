use Rattle.std.proofs.Common.{◌≡◌, ◌++◌, length}
use Rattle.pool_relation.specs.Action.{bind}
use Rattle.stepper_terms.proofs.changes.add_params.Given as goal

abbrev pub invariant-loop-param : goal.invariant-loop-param
invariant-loop-param l = l.temps.items ++ bind l.params l.args ≡ l.initial.temps.items ++ bind l.initial.params l.initial.args

abbrev pub decreases-loop-param : goal.decreases-loop-param
decreases-loop-param l = length l.params
