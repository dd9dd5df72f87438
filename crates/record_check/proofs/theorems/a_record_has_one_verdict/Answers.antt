use Rattle.record_check.proofs.OneVerdict.{one_verdict}
use Rattle.record_check.proofs.theorems.a_record_has_one_verdict.Goals as goal

pub returns : goal.returns
returns c = λ p ls v w j k. one_verdict p ls v w j k
