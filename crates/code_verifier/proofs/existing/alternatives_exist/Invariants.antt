use Rattle.std.proofs.Common.{◌≡◌, drop}
use Rattle.std.specs.List.{list_all}
use Rattle.code_typing.specs.Verdict.{alternative_exists}
use Rattle.code_verifier.specs.Scopes.{scope_of}
use Rattle.code_verifier.proofs.existing.alternatives_exist.Given as goal

-- each so far passes
abbrev pub invariant-loop-alternative : goal.invariant-loop-alternative
invariant-loop-alternative l = list_all (alternative_exists (scope_of l.scope) l.code) (drop l.alternative-index l.alternatives) ≡ list_all (alternative_exists (scope_of l.scope) l.code) l.alternatives
