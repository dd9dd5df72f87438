use Rattle.std.proofs.Common.{◌≡◌, ◌++◌, [], get_or, drop}
use Rattle.reachability.specs.Labels.{takes}
use Rattle.visited_set.proofs.labelling.push_takes.Given as goal

-- the takes so far, with those that are left
abbrev pub invariant-loop-at : goal.invariant-loop-at
invariant-loop-at l =
    l.into.items ++ takes (l.queue.sender, l.queue.receiver) (drop l.at (get_or l.lists l.queue.mails []))
    ≡ l.initial.into.items ++ takes (l.queue.sender, l.queue.receiver) (get_or l.lists l.queue.mails [])
