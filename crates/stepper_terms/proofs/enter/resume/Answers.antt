use Rattle.std.proofs.Common.{arith}
use Rattle.stepper_terms.proofs.ContextPlug.{operands_more}
use Rattle.stepper_terms.proofs.enter.resume.Goals as goal

pub returns-in_ok-push-in-CallArgument-clause-same : goal.returns-in_ok-push-in-CallArgument-clause-same
returns-in_ok-push-in-CallArgument-clause-same c = grind (arith, operands_more)

pub returns-in_ok-push-in-SendArgument-clause-same : goal.returns-in_ok-push-in-SendArgument-clause-same
returns-in_ok-push-in-SendArgument-clause-same c = grind (arith, operands_more)
