use Rattle.std.proofs.Common.{◌≡◌, ◌++◌, drop, map}
use Rattle.message_queue.specs.Mails.{message_of}
use Rattle.term_text.specs.StateText.{mail_text}
use Rattle.watch_text.proofs.mails.push_early.Given as goal

-- the text so far and what is left are the text of all
abbrev pub invariant-loop-at : goal.invariant-loop-at
invariant-loop-at l = l.text.items ++ mail_text l.names (map message_of (drop l.at l.mails.items)) ≡ l.initial.text.items ++ mail_text l.names (map message_of l.mails.items)
