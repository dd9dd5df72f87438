use Rattle.std.proofs.Common.{◌≡◌, ◌+◌, ◌-◌, ◌≤◌, length, drop}
use Rattle.text_scan.specs.Lines.{lines}
use Rattle.text_scan.proofs.content_lines.count_lines.Given as goal

-- the lines so far and those that are left are all
abbrev pub invariant-loop-line : goal.invariant-loop-line
invariant-loop-line l = (l.at ≤ length l.bytes) × (l.count ≤ l.at) × (l.count + length (lines (drop l.at l.bytes)) ≡ length (lines l.bytes))

abbrev pub decreases-loop-line : goal.decreases-loop-line
decreases-loop-line l = length l.bytes - l.at
