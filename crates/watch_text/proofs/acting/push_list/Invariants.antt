use Rattle.std.proofs.Common.{◌≡◌, ◌++◌, drop}
use Rattle.term_text.specs.StateText.{led_names}
use Rattle.watch_text.proofs.acting.push_list.Given as goal

-- the text so far and what is left are the text of all
abbrev pub invariant-loop-named : goal.invariant-loop-named
invariant-loop-named l = l.text.items ++ led_names l.names (drop l.named-index l.list) ≡ l.initial.text.items ++ led_names l.names l.list
