use Rattle.std.proofs.Common.{◌≡◌, length}
use Rattle.stepper_terms.specs.Parts.{alternatives, guarded}
use Rattle.stepper_terms.proofs.enter.guards.Given as goal

abbrev pub invariant-loop-alt : goal.invariant-loop-alt
invariant-loop-alt l = guarded l.done.items (alternatives l.rest) ≡ guarded l.initial.done.items (alternatives l.initial.rest)

abbrev pub decreases-loop-alt : goal.decreases-loop-alt
decreases-loop-alt l = length l.rest
