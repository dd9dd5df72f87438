use Rattle.std.proofs.Common.{◌≡◌, ◌++◌, drop}
use Rattle.stepper_text.specs.Around.{befores}
use Rattle.stepper_text.proofs.places.push_befores.Given as goal

-- the text so far and what is left are the text of all
abbrev pub invariant-loop-i : goal.invariant-loop-i
invariant-loop-i l = l.text.items ++ befores l.names (drop l.i l.places) l.level ≡ l.initial.text.items ++ befores l.names l.places l.level
