use Rattle.std.proofs.Common.{◌≡◌, ◌+◌, ◌-◌, ◌≤◌, ◌++◌, length}
use Rattle.std.specs.List.{range_with_len}
use Rattle.schedule_reader.specs.Events.{turns}
use Rattle.schedule_reader.proofs.round.push_turns.Given as goal

-- the turns so far and those that are left are all
abbrev pub invariant-loop-node : goal.invariant-loop-node
invariant-loop-node l =
    record {
      items : l.events.items ++ turns (range_with_len l.node (l.nodes - l.node)) ≡ l.initial.events.items ++ turns (range_with_len 0 l.nodes);
      few : length l.events.items ≤ length l.initial.events.items + l.node;
    }
