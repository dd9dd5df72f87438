use Rattle.std.proofs.Common.{◌≡◌, ◌+◌, ◌*◌, ◌-◌, ◌≤◌, ◌++◌, length, drop}
use Rattle.text_scan.specs.Lines.{lines}
use Rattle.text_scan.specs.ContentLines.{kept_from}
use Rattle.schedule_reader.specs.Events.{events_of, total}
use Rattle.schedule_reader.specs.Schedules.{entries_of, first_fault}
use Rattle.schedule_reader.specs.EventRuns.{AreEnds, stretched}
use Rattle.schedule_reader.proofs.collect.gather.Given as goal

-- what the lines so far and those that are left give together is what all give
abbrev pub invariant-loop-found : goal.invariant-loop-found
invariant-loop-found l =
    let all = kept_from l.opening.line (lines (drop l.opening.at l.bytes)) in
    let left = kept_from l.number (lines (drop l.at l.bytes)) in
    record {
      within : l.at ≤ length l.bytes;
      few : l.number ≤ l.at + 1;
      fault : first_fault l.width l.height l.cuts l.opening.lossy all ≡ first_fault l.width l.height l.cuts l.opening.lossy left;
      counted : l.gathered.total + total l.width l.height l.cuts l.opening.lossy (entries_of l.opening.lossy left) ≡ total l.width l.height l.cuts l.opening.lossy (entries_of l.opening.lossy all);
      small : l.gathered.total ≤ 24704000000 * l.at;
      ends : l.gathered.total ≤ 2000000 → AreEnds l.round 0 l.gathered.stretches.items l.gathered.total;
      events : l.gathered.total ≤ 2000000 → stretched l.round l.gathered.stretches.items ++ events_of l.width l.height l.cuts l.opening.lossy (entries_of l.opening.lossy left) ≡ events_of l.width l.height l.cuts l.opening.lossy (entries_of l.opening.lossy all);
    }

abbrev pub decreases-loop-found : goal.decreases-loop-found
decreases-loop-found l = length l.bytes - l.at
