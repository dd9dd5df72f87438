use Rattle.std.proofs.Common.{◌≡◌, ◌++◌, drop}
use Rattle.stepper_text.specs.Inners.{level_lines}
use Rattle.stepper_text.proofs.levels.push_levels.Given as goal

-- the text so far and what is left are the text of all
abbrev pub invariant-loop-i : goal.invariant-loop-i
invariant-loop-i l = l.text.items ++ level_lines l.names l.object (drop l.i l.calls) l.next ≡ l.initial.text.items ++ level_lines l.names l.object l.calls l.next
