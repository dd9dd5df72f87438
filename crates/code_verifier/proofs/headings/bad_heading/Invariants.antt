use Rattle.std.proofs.Common.{◌≡◌, ◌≤◌, ◌-◌, length}
use Rattle.code_typing.specs.Verdict.{bad_heading}
use Rattle.code_verifier.proofs.headings.bad_heading.Given as goal

-- the headings so far meet their rules
abbrev pub invariant-loop-place : goal.invariant-loop-place
invariant-loop-place l =
    let f = l.classes.file.now in
    (bad_heading f (length f.unit.classes - l.place) l.place ≡ bad_heading f (length f.unit.classes) 0) × (l.place ≤ 256)
