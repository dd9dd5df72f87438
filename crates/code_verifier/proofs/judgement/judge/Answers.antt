use Rattle.std.proofs.Common.{◌≡◌, ◌≢◌, None, length, rules}
use Rattle.code_typing.specs.Verdict.{bad_heading}
use Rattle.code_verifier.proofs.AnswerLaws.{codes_told, header_told}
use Rattle.code_verifier.proofs.judgement.judge.Goals as goal

pub returns-in-Some : goal.returns-in-Some
returns-in-Some c =
    let f = c.args.file.now in
    let some : length f.unit.classes ≢ 0 = search rules in
    header_told f some c.in-Some.class (search rules)

pub returns : goal.returns
returns c =
    let f = c.args.file.now in
    let some : length f.unit.classes ≢ 0 = search rules in
    let right : bad_heading f (length f.unit.classes) 0 ≡ None = search rules in
    codes_told f some c.check_codes.result right c.check_codes.ensures
