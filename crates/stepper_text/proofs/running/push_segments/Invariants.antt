use Rattle.std.proofs.Common.{◌≡◌, ◌++◌, drop}
use Rattle.stepper_terms.specs.Parts.{left}
use Rattle.term_text.specs.Words.{more_statements}
use Rattle.stepper_text.proofs.running.push_segments.Given as goal

-- the text so far is that of the segments from here on
abbrev pub invariant-loop-i : goal.invariant-loop-i
invariant-loop-i l = l.text.items ≡ l.initial.text.items ++ more_statements l.names (left (drop l.i l.segments))
