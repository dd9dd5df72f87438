use Rattle.std.proofs.Common.{◌≡◌, ◌+◌, ◌-◌, ◌≤◌, length, drop}
use Rattle.std.specs.List.{prefix_len}
use Rattle.text_scan.specs.ByteSets.{is_in}
use Rattle.text_scan.proofs.scan.run_end.Given as goal

-- the bytes passed so far are of the run
abbrev pub invariant-loop-at : goal.invariant-loop-at
invariant-loop-at l = record {
  within : l.at ≤ length l.bytes;
  run : l.at + prefix_len (is_in l.set) (drop l.at l.bytes) ≡ l.fn.from + prefix_len (is_in l.set) (drop l.fn.from l.bytes);
}

abbrev pub decreases-loop-at : goal.decreases-loop-at
decreases-loop-at l = length l.bytes - l.at
