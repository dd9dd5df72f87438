use Rattle.std.proofs.Common.{◌≡◌, drop}
use Rattle.code_typing.specs.Verdict.{bad_method}
use Rattle.code_verifier.specs.Scopes.{declared_of}
use Rattle.code_verifier.proofs.codes.check_methods.Given as goal

-- the codes so far are well sorted
abbrev pub invariant-loop-i : goal.invariant-loop-i
invariant-loop-i l =
    let k = declared_of l.class in
    bad_method l.classes.file.now k l.place l.i (drop l.i k.code.methods) (drop l.i k.kinds.methods) ≡ bad_method l.classes.file.now k l.place 0 k.code.methods k.kinds.methods
