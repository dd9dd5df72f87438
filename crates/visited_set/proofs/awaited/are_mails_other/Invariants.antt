use Rattle.std.proofs.Common.{◌≡◌, [], get_or, drop}
use Rattle.std.specs.List.{list_all}
use Rattle.known_names.specs.Awaited.{is_message_other}
use Rattle.visited_set.proofs.awaited.are_mails_other.Given as goal

-- all messages have only other names if those that are left have
abbrev pub invariant-loop-at : goal.invariant-loop-at
invariant-loop-at l =
    list_all (is_message_other l.others.next l.others.name) (get_or l.lists l.list [])
    ≡ list_all (is_message_other l.others.next l.others.name) (drop l.at (get_or l.lists l.list []))
