use Rattle.std.proofs.Common.{◌≡◌, ◌+◌, ◌-◌, ◌≤◌, length, drop}
use Rattle.text_scan.specs.Lines.{lines}
use Rattle.text_scan.specs.ContentLines.{kept_from}
use Rattle.text_scan.proofs.content_lines.next_content_line.Given as goal

-- the lines so far were passed over
abbrev pub invariant-loop-found : goal.invariant-loop-found
invariant-loop-found l =
    (l.from ≤ l.at) × (l.at ≤ length l.bytes) × (l.number ≤ l.at + 1)
    × (kept_from l.line (lines (drop l.from l.bytes)) ≡ kept_from l.number (lines (drop l.at l.bytes)))

abbrev pub decreases-loop-found : goal.decreases-loop-found
decreases-loop-found l = length l.bytes - l.at
