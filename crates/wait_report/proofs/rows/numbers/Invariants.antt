use Rattle.std.proofs.Common.{◌≡◌, map, take}
use Rattle.wait_report.proofs.rows.numbers.Given as goal

abbrev pub invariant-loop-row : goal.invariant-loop-row
invariant-loop-row l = l.numbers.items ≡ map (λ r. r.name) (take l.row-index l.rows)
