use Rattle.std.proofs.Common.{◌++◌, drop}
use Rattle.search_states.specs.Alike.{AlikeCalls}
use Rattle.search_states.proofs.copies.copied_calls.Given as goal

-- what was copied, with what is left
abbrev pub invariant-loop-call : goal.invariant-loop-call
invariant-loop-call l = AlikeCalls (l.copied.items ++ drop l.call-index l.calls) l.calls
