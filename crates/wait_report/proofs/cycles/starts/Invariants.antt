use Rattle.std.proofs.Common.{◌≡◌, ◌<◌, ℕ, true, false, get_or}
use Rattle.wait_report.specs.Cycles.{IsMarked}
use Rattle.wait_report.proofs.cycles.starts.Given as goal

abbrev pub invariant-loop-from : goal.invariant-loop-from
invariant-loop-from l = IsMarked l.next l.seen.items l.starts.items × ((k : ℕ) → k < l.from → get_or l.seen.items k false ≡ true)
