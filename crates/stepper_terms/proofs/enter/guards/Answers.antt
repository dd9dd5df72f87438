use Rattle.std.proofs.Common.{arith}
use Rattle.stepper_terms.proofs.ContextPlug.{guarded_more}
use Rattle.stepper_terms.proofs.enter.guards.Goals as goal

pub loop-alt-preserved : goal.loop-alt-preserved
loop-alt-preserved c = grind (arith, guarded_more)
