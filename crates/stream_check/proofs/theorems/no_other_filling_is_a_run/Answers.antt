use Rattle.stream_check.proofs.NoOtherFilling.{no_other_filling}
use Rattle.stream_check.proofs.theorems.no_other_filling_is_a_run.Goals as goal

pub returns : goal.returns
returns c = λ p names ls fs gs v readable f not_yes g r. no_other_filling p names ls fs gs v readable f not_yes g r
