use Rattle.record_check.proofs.OneVerdict.{only_yes}
use Rattle.record_check.proofs.theorems.a_run_is_judged_yes.Goals as goal

pub returns : goal.returns
returns c = λ p ls v r j. only_yes p ls v r j
