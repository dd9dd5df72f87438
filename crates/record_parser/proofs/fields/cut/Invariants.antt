use Rattle.std.proofs.Common.{◌≡◌, ◌-◌, ◌≤◌, length, drop, take}
use Rattle.record_parser.specs.Fields.{parts}
use Rattle.record_parser.proofs.LeadingBytes.{behind}
use Rattle.record_parser.proofs.fields.cut.Given as goal

-- no byte so far is the separator
abbrev pub invariant-loop-at : goal.invariant-loop-at
invariant-loop-at l =
    record { within : l.at ≤ length l.text; parts : parts l.separator l.text ≡ behind (take l.at l.text) (parts l.separator (drop l.at l.text)) }

abbrev pub decreases-loop-at : goal.decreases-loop-at
decreases-loop-at l = length l.text - l.at
