use Rattle.std.proofs.Common.{◌≡◌, ◌++◌, drop}
use Rattle.stepper_terms.specs.Parts.{left}
use Rattle.search_states.proofs.copies.copied_rest.Given as goal

-- what was copied, with what is left
abbrev pub invariant-loop-part : goal.invariant-loop-part
invariant-loop-part l = left (l.copied.items ++ drop l.part-index l.rest) ≡ left l.rest
