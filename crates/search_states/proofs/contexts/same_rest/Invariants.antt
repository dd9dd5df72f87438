use Rattle.std.proofs.Common.{◌≡◌, drop}
use Rattle.stepper_terms.specs.Parts.{left}
use Rattle.search_states.proofs.contexts.same_rest.Given as goal

-- if what is left is the same, all is
abbrev pub invariant-loop-i : goal.invariant-loop-i
invariant-loop-i l = left (drop l.i l.rest) ≡ left (drop l.i l.other) → left l.rest ≡ left l.other
