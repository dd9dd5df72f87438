use Rattle.std.proofs.Common.{◌≡◌, ◌+◌, ◌*◌, ◌-◌, ◌≤◌, ◌++◌, length}
use Rattle.std.specs.List.{range_with_len}
use Rattle.schedule_reader.specs.Events.{moves_to}
use Rattle.schedule_reader.proofs.round.push_moves_to.Given as goal

-- the moves so far and those that are left are all
abbrev pub invariant-loop-to : goal.invariant-loop-to
invariant-loop-to l =
    record {
      items : l.events.items ++ moves_to l.width l.cuts l.lossy l.from (range_with_len l.to (l.nodes - l.to)) ≡ l.initial.events.items ++ moves_to l.width l.cuts l.lossy l.from (range_with_len 0 l.nodes);
      few : length l.events.items ≤ length l.initial.events.items + 3 * l.to;
    }
