use Rattle.std.proofs.Common.{◌≡◌, ◌-◌, length}
use Rattle.code_typing.specs.Verdict.{bad_codes}
use Rattle.code_verifier.proofs.codes.check_codes.Given as goal

-- the codes so far are well sorted
abbrev pub invariant-loop-place : goal.invariant-loop-place
invariant-loop-place l = let f = l.classes.file.now in bad_codes f (length f.unit.classes - l.place) l.place ≡ bad_codes f (length f.unit.classes) 0
