use Rattle.std.proofs.Common.{◌≡◌, drop}
use Rattle.std.specs.List.{list_all}
use Rattle.code_typing.specs.Verdict.{does_exist}
use Rattle.code_verifier.specs.Scopes.{scope_of}
use Rattle.code_verifier.proofs.existing.do_exist.Given as goal

-- each so far passes
abbrev pub invariant-loop-instr : goal.invariant-loop-instr
invariant-loop-instr l = list_all (does_exist (scope_of l.scope) l.code) (drop l.instr-index l.code) ≡ list_all (does_exist (scope_of l.scope) l.code) l.code
