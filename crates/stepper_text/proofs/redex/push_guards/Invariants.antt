use Rattle.std.proofs.Common.{◌≡◌, ◌++◌, drop}
use Rattle.stepper_text.specs.Contents.{guards_text}
use Rattle.stepper_text.proofs.redex.push_guards.Given as goal

-- the text so far and what is left are the text of all
abbrev pub invariant-loop-guarded : goal.invariant-loop-guarded
invariant-loop-guarded l = l.text.items ++ guards_text l.names (drop l.guarded-index l.guards) ≡ l.initial.text.items ++ guards_text l.names l.guards
