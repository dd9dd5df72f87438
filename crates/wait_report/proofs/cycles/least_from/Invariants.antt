use Rattle.std.proofs.Common.{◌≡◌, drop}
use Rattle.wait_report.specs.Cycles.{least_from}
use Rattle.wait_report.proofs.LeastLeft.{least_left}
use Rattle.wait_report.proofs.cycles.least_from.Given as goal

abbrev pub invariant-loop-place : goal.invariant-loop-place
invariant-loop-place l = least_from l.at l.path ≡ least_left l.at l.least (drop l.place-index l.path)
