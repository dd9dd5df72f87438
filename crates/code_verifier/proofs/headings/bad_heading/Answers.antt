use Rattle.std.proofs.Common.{◌≡◌, ◌<◌, ◌∙◌, sym, length, rules, arith}
use Rattle.std.specs.Prelude.{true}
use Rattle.code_typing.specs.Sorts.{declared_at}
use Rattle.code_typing.specs.Verdict.{heading_right}
use Rattle.code_verifier.proofs.VerdictSteps.{heading_bound, heading_next}
use Rattle.code_verifier.proofs.headings.bad_heading.Goals as goal

pub loop-place-preserved : goal.loop-place-preserved
loop-place-preserved c =
    let f = c.args.classes.now.file.now in
    let j = c.loop-place.place in
    let lt : j < length f.unit.classes = search rules in
    let right : heading_right f j (declared_at f j) ≡ true = search rules in
    let b = heading_bound f j c.requires lt right in
    (sym (heading_next f (length f.unit.classes) j lt right) ∙ c.loop-place.invariant.0, omega (arith, b))
