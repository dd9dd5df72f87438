use Rattle.std.proofs.Common.{arith}
use Rattle.std.proofs.lemmas.List.{append_assoc}
use Rattle.stepper_terms.proofs.Lengths.{bind_nothing}
use Rattle.stepper_terms.proofs.changes.add_params.Goals as goal

pub loop-param-preserved-in_ok-push-in-Some-split_first : goal.loop-param-preserved-in_ok-push-in-Some-split_first
loop-param-preserved-in_ok-push-in-Some-split_first c = grind (arith, bind_nothing, append_assoc)

pub loop-param-preserved : goal.loop-param-preserved
loop-param-preserved c = grind (arith, bind_nothing, append_assoc)
