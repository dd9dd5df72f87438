use Rattle.std.proofs.Common.{◌≡◌, ◌≤◌, ◌-◌, ◌++◌, suc, length, drop}
use Rattle.stepper_terms.specs.Reduced.{choices}
use Rattle.reachability.specs.Labels.{picks}
use Rattle.pool_semantics.proofs.plain.labels.push_picks.Given as goal

abbrev pub invariant-loop-alt : goal.invariant-loop-alt
invariant-loop-alt l =
    (l.alt ≤ length l.guards.items) × (l.into.items ++ picks l.object (suc l.alt) (drop l.alt (choices l.guards.items)) ≡ l.fn.into.items ++ picks l.object 1 (choices l.guards.items))

abbrev pub decreases-loop-alt : goal.decreases-loop-alt
decreases-loop-alt l = length l.guards.items - l.alt
