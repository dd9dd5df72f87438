use Rattle.std.proofs.Common.{◌≡◌, ◌++◌}
use Rattle.pool_semantics.specs.Mails.{posts}
use Rattle.term_text.specs.StateText.{mails}
use Rattle.watch_text.proofs.wholes.push_mails.Given as goal

-- the text so far and that of the rest are the text of all
abbrev pub invariant-loop-pair : goal.invariant-loop-pair
invariant-loop-pair l = l.text.items ++ mails l.names (posts l.pair-iterator) ≡ l.initial.text.items ++ mails l.names (posts l.messages.entries)
