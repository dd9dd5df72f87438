use Rattle.std.proofs.Common.{◌≡◌}
use Rattle.code_verifier.specs.declared.fault.VerifyFault.TheVariants as F
use Rattle.code_verifier.proofs.AnswerLaws.{answer_code, answer_header, not_code, not_header}
use Rattle.code_typing.specs.Verdict.{verdict}
use Rattle.code_typing.proofs.Laws.{code_is_first, first_is_code, first_is_header, header_is_first, no_class, verified_is_good}
use Rattle.code_verifier.proofs.AnswerToVerdict.{code_only, good_only, good_told, header_only, verified_told}
use Rattle.code_verifier.proofs.verifier.verify.Goals as goal

pub invariant_of-result : goal.invariant_of-result
invariant_of-result c = record { shaped = c.requires; verified = good_told c.args.file.now c.in-Ok.field-0 c.in-Ok.ensures }

pub returns-in-Ok-clause-good : goal.returns-in-Ok-clause-good
returns-in-Ok-clause-good c = λ u. verified_told c.args.file.now c.in-Ok.field-0 c.in-Ok.ensures

pub returns-in-Err-clause-header : goal.returns-in-Err-clause-header
returns-in-Err-clause-header c = λ j q.
    header_is_first c.args.file.now j (answer_header (verdict c.args.file.now) c.in-Err.fault c.in-Err.ensures j (let z : c.in-Err.fault ≡ F.Header j = cc in z))

pub returns-in-Err-clause-code : goal.returns-in-Err-clause-code
returns-in-Err-clause-code c = λ j i q.
    code_is_first c.args.file.now j i (answer_code (verdict c.args.file.now) c.in-Err.fault c.in-Err.ensures j i (let z : c.in-Err.fault ≡ F.Code j i = cc in z))

pub returns-in-Err-clause-only_good : goal.returns-in-Err-clause-only_good
returns-in-Err-clause-only_good c = λ w u. good_only _ (verdict c.args.file.now) c.in-Err.fault c.in-Err.ensures (verified_is_good c.args.file.now w)

pub returns-in-Err-clause-only_empty : goal.returns-in-Err-clause-only_empty
returns-in-Err-clause-only_empty c = λ e. header_only _ (verdict c.args.file.now) c.in-Err.fault c.in-Err.ensures 0 (no_class c.args.file.now e)

pub returns-in-Err-clause-only_header : goal.returns-in-Err-clause-only_header
returns-in-Err-clause-only_header c = λ j b. header_only _ (verdict c.args.file.now) c.in-Err.fault c.in-Err.ensures j (first_is_header c.args.file.now j b)

pub returns-in-Err-clause-only_code : goal.returns-in-Err-clause-only_code
returns-in-Err-clause-only_code c = λ j i b. code_only _ (verdict c.args.file.now) c.in-Err.fault c.in-Err.ensures j i (first_is_code c.args.file.now j i b)

pub returns-in-Ok-clause-only_empty : goal.returns-in-Ok-clause-only_empty
returns-in-Ok-clause-only_empty c = λ e. absurd (not_header (verdict c.args.file.now) c.in-Ok.field-0 c.in-Ok.ensures 0 (no_class c.args.file.now e))

pub returns-in-Ok-clause-only_header : goal.returns-in-Ok-clause-only_header
returns-in-Ok-clause-only_header c = λ j b. absurd (not_header (verdict c.args.file.now) c.in-Ok.field-0 c.in-Ok.ensures j (first_is_header c.args.file.now j b))

pub returns-in-Ok-clause-only_code : goal.returns-in-Ok-clause-only_code
returns-in-Ok-clause-only_code c = λ j i b. absurd (not_code (verdict c.args.file.now) c.in-Ok.field-0 c.in-Ok.ensures j i (first_is_code c.args.file.now j i b))
