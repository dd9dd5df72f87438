use Rattle.std.proofs.Common.{◌≡◌, ◌++◌, drop}
use Rattle.term_text.specs.Levels.{bindings}
use Rattle.term_text.proofs.parts.push_bindings.Given as goal

-- the text so far and what is left are the text of all
abbrev pub invariant-loop-binding : goal.invariant-loop-binding
invariant-loop-binding l = l.text.items ++ bindings l.names (drop l.binding-index l.list) ≡ l.initial.text.items ++ bindings l.names l.list
