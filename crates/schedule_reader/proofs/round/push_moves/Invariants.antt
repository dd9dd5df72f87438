use Rattle.std.proofs.Common.{◌≡◌, ◌+◌, ◌*◌, ◌-◌, ◌≤◌, ◌++◌, length}
use Rattle.std.specs.List.{range_with_len}
use Rattle.schedule_reader.specs.Events.{moves_from}
use Rattle.schedule_reader.proofs.round.push_moves.Given as goal

-- the moves so far and those that are left are all
abbrev pub invariant-loop-from : goal.invariant-loop-from
invariant-loop-from l =
    record {
      items : l.events.items ++ moves_from l.width l.cuts l.lossy l.nodes (range_with_len l.from (l.nodes - l.from)) ≡ l.initial.events.items ++ moves_from l.width l.cuts l.lossy l.nodes (range_with_len 0 l.nodes);
      few : length l.events.items ≤ length l.initial.events.items + 192 * l.from;
    }
