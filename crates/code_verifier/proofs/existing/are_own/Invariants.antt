use Rattle.std.proofs.Common.{◌≡◌, drop}
use Rattle.std.specs.List.{list_all}
use Rattle.code_typing.specs.Verdict.{is_own}
use Rattle.code_verifier.specs.Scopes.{scope_of}
use Rattle.code_verifier.proofs.existing.are_own.Given as goal

-- each so far passes
abbrev pub invariant-loop-name : goal.invariant-loop-name
invariant-loop-name l = list_all (is_own (scope_of l.scope)) (drop l.name-index l.names) ≡ list_all (is_own (scope_of l.scope)) l.names
