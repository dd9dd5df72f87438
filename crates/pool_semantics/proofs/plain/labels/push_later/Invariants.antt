use Rattle.std.proofs.Common.{◌≡◌, ◌++◌, map}
use Rattle.std.specs.BTreeMap.{values}
use Rattle.reachability.specs.Labels.{takes}
use Rattle.message_queue.specs.Mails.{message_of}
use Rattle.pool_semantics.proofs.plain.labels.push_later.Given as goal

-- the takes so far and those of the rest are those of all
abbrev pub invariant-loop-mail : goal.invariant-loop-mail
invariant-loop-mail l = l.into.items ++ takes (l.sender, l.receiver) (map message_of l.mail-iterator) ≡ l.initial.into.items ++ takes (l.sender, l.receiver) (map message_of (values l.mails))
