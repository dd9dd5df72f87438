use Rattle.std.proofs.Common.{◌≡◌, ◌≤◌, ◌-◌, ◌++◌, length, map, drop}
use Rattle.reachability.specs.Labels.{takes}
use Rattle.pool_semantics.specs.Mails.{message_of}
use Rattle.pool_semantics.proofs.plain.labels.push_early.Given as goal

abbrev pub invariant-loop-at : goal.invariant-loop-at
invariant-loop-at l =
    (l.at ≤ length l.mails.items) × (l.into.items ++ takes (l.sender, l.receiver) (map message_of (drop l.at l.mails.items)) ≡ l.fn.into.items ++ takes (l.sender, l.receiver) (map message_of l.mails.items))

abbrev pub decreases-loop-at : goal.decreases-loop-at
decreases-loop-at l = length l.mails.items - l.at
