use Rattle.std.proofs.Common.{◌≡◌, length}
use Rattle.stepper_terms.specs.Parts.{left}
use Rattle.stepper_terms.proofs.enter.advance.Given as goal

abbrev pub invariant-loop-segment : goal.invariant-loop-segment
invariant-loop-segment l = left l.rest.items ≡ left l.initial.rest.items

abbrev pub decreases-loop-segment : goal.decreases-loop-segment
decreases-loop-segment l = length l.rest.items
