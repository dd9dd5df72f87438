use Rattle.std.proofs.Common.{◌≡◌, ◌<◌, ◌++◌, ◌-◌, length}
use Rattle.text_scan.specs.Text.{Text}
use Rattle.mesh_semantics.specs.Standing.{chase}
use Rattle.wait_report.specs.Cycles.{jump, cycle_at}
use Rattle.wait_report.proofs.CycleText.{ended}
use Rattle.wait_report.proofs.cycles.put_cycle.Given as goal

abbrev pub invariant-loop-step : goal.invariant-loop-step
invariant-loop-step l =
    (done : Text) × (l.text.items ≡ l.fn.text.items ++ done) × (l.before ≡ length l.fn.text.items) × (l.at < length l.next)
    × (cycle_at l.numbers (chase (jump l.next) (length l.next) l.first l.first) ≡ ended l.numbers done (chase (jump l.next) (length l.next - l._step) l.first l.at))
