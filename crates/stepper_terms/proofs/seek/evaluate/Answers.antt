use Rattle.std.proofs.Common.{arith}
use Rattle.stepper_terms.proofs.ContextPlug.{operands_more}
use Rattle.stepper_terms.proofs.seek.evaluate.Goals as goal

pub loop-first-preserved : goal.loop-first-preserved
loop-first-preserved c = grind (arith, operands_more)
