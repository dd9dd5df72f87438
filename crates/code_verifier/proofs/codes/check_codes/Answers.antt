use Rattle.std.proofs.Common.{◌<◌, ◌∙◌, refl, sym, length, rules, None}
use Rattle.code_typing.specs.Sorts.{declared_at}
use Rattle.code_typing.specs.Verdict.{bad_code, bad_codes}
use Rattle.code_verifier.proofs.CombinedVerdicts.{err_on}
use Rattle.code_verifier.proofs.VerdictSteps.{code_found, code_next}
use Rattle.code_verifier.proofs.codes.check_codes.Goals as goal

pub returns-in-Err : goal.returns-in-Err
returns-in-Err c =
    let f = c.args.classes.now.file.now in
    let j = c.loop-place.place in
    let n = length f.unit.classes in
    let lt : j < length f.unit.classes = search rules in
    err_on c.in-Err.fault (bad_code f j (declared_at f j)) (bad_codes f n 0) (λ v e. sym c.loop-place.invariant ∙ code_found f n j v lt e) c.in-Err.ensures

pub loop-place-preserved : goal.loop-place-preserved
loop-place-preserved c =
    let f = c.args.classes.now.file.now in
    let j = c.loop-place.place in
    let lt : j < length f.unit.classes = search rules in
    sym (code_next f (length f.unit.classes) j lt (c.in-Ok.ensures None refl)) ∙ c.loop-place.invariant
