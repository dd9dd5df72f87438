use Rattle.std.proofs.Common.{◌≡◌, not, count_by}
use Rattle.wait_report.proofs.WalkMarks.{Walking}
use Rattle.wait_report.proofs.cycles.walk.Given as goal

abbrev pub invariant-loop-seen : goal.invariant-loop-seen
invariant-loop-seen l = Walking l.next l.fn.seen l.seen l.from l.path.items l.at × (l.starts ≡ l.fn.starts)

abbrev pub decreases-loop-seen : goal.decreases-loop-seen
decreases-loop-seen l = count_by not l.seen
