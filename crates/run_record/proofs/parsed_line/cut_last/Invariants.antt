use Rattle.std.proofs.Common.{◌≡◌, ◌≤◌, [], ◌∷◌, length, drop}
use Rattle.record_parser.specs.Fields.{parts}
use Rattle.run_record.proofs.parsed_line.cut_last.Given as goal

-- what is behind has no space
abbrev pub invariant-loop-at : goal.invariant-loop-at
invariant-loop-at l = record { within : l.at ≤ length l.text; behind : parts 32 (drop l.at l.text) ≡ drop l.at l.text ∷ [] }

abbrev pub decreases-loop-at : goal.decreases-loop-at
decreases-loop-at l = l.at
