use Rattle.std.proofs.Common.{◌≡◌, ◌<◌, ℕ, None, length, get_or}
use Rattle.wait_report.specs.Calls.{calls_of, IsNext}
use Rattle.wait_report.proofs.rows.callees.Given as goal

abbrev pub invariant-loop-row : goal.invariant-loop-row
invariant-loop-row l =
    (length l.callees.items ≡ l.row-index) × ((k : ℕ) → k < l.row-index → IsNext l.numbers (get_or (calls_of l.rows) k None) (get_or l.callees.items k None))
