use Rattle.std.proofs.Common.{◌≡◌, ◌++◌, drop}
use Rattle.term_text.specs.Words.{more_names}
use Rattle.term_text.proofs.parts.push_more_names.Given as goal

-- the text so far and what is left are the text of all
abbrev pub invariant-loop-named : goal.invariant-loop-named
invariant-loop-named l = l.text.items ++ more_names l.names (drop l.named-index l.list) ≡ l.initial.text.items ++ more_names l.names l.list
