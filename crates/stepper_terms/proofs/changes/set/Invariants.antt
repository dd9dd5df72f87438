use Rattle.std.proofs.Common.{◌≡◌, ◌-◌, ◌++◌, take, drop, length}
use Rattle.pool_relation.specs.Reducible.{set_value}
use Rattle.stepper_terms.proofs.changes.set.Given as goal

abbrev pub invariant-loop-at : goal.invariant-loop-at
invariant-loop-at l = (l.bindings.items ≡ l.initial.bindings.items) × (take l.at l.bindings.items ++ set_value (drop l.at l.bindings.items) l.name l.value ≡ set_value l.bindings.items l.name l.value)

abbrev pub decreases-loop-at : goal.decreases-loop-at
decreases-loop-at l = length l.bindings.items - l.at
