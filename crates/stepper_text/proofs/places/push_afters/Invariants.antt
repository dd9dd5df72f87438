use Rattle.std.proofs.Common.{◌≡◌, ◌++◌, drop}
use Rattle.stepper_text.specs.Around.{afters}
use Rattle.stepper_text.proofs.places.push_afters.Given as goal

-- the text so far is that of the places from here on
abbrev pub invariant-loop-i : goal.invariant-loop-i
invariant-loop-i l = l.text.items ≡ l.initial.text.items ++ afters l.names (drop l.i l.places) l.level
