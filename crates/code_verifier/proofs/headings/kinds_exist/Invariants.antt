use Rattle.std.proofs.Common.{◌≡◌, drop}
use Rattle.std.specs.List.{list_all}
use Rattle.code_typing.specs.Verdict.{kind_exists}
use Rattle.code_verifier.proofs.headings.kinds_exist.Given as goal

-- each so far passes
abbrev pub invariant-loop-kind : goal.invariant-loop-kind
invariant-loop-kind l = list_all (kind_exists l.classes.file.now) (drop l.kind-index l.kinds) ≡ list_all (kind_exists l.classes.file.now) l.kinds
