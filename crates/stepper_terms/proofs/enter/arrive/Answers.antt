use Rattle.std.proofs.Common.{arith}
use Rattle.stepper_terms.proofs.ContextPlug.{operands_more, guarded_more}
use Rattle.stepper_terms.proofs.enter.arrive.Goals as goal

pub returns-in-Argument : goal.returns-in-Argument
returns-in-Argument c = grind (arith, operands_more)

pub returns-in-Guard : goal.returns-in-Guard
returns-in-Guard c = grind (arith, guarded_more)
