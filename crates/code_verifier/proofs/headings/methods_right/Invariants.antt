use Rattle.std.proofs.Common.{◌≡◌, drop}
use Rattle.code_typing.specs.Verdict.{methods_right}
use Rattle.code_verifier.proofs.headings.methods_right.Given as goal

-- the headings so far meet their rules
abbrev pub invariant-loop-place : goal.invariant-loop-place
invariant-loop-place l =
    methods_right l.classes.file.now l.class.code.now l.place (drop l.place l.class.code.now.methods) (drop l.place l.class.kinds.now.methods)
    ≡ methods_right l.classes.file.now l.class.code.now 0 l.class.code.now.methods l.class.kinds.now.methods
