use Rattle.std.proofs.Common.{◌≡◌, ◌++◌, map}
use Rattle.std.specs.BTreeMap.{values}
use Rattle.message_queue.specs.Mails.{message_of}
use Rattle.term_text.specs.StateText.{mail_text}
use Rattle.watch_text.proofs.mails.push_later.Given as goal

-- the text so far and what is left are the text of all
abbrev pub invariant-loop-mail : goal.invariant-loop-mail
invariant-loop-mail l = l.text.items ++ mail_text l.names (map message_of l.mail-iterator) ≡ l.initial.text.items ++ mail_text l.names (map message_of (values l.mails))
