use Rattle.std.proofs.Common.{◌≡◌, ◌++◌, take}
use Rattle.compiler_correctness.specs.DeclaredKinds.{kinds_of}
use Rattle.code_verify.proofs.unit_file.push_kinds.Given as goal

abbrev pub invariant-loop-var : goal.invariant-loop-var
invariant-loop-var l = l.kinds ≡ l.initial.kinds ++ kinds_of (take l.var-index l.vars)
