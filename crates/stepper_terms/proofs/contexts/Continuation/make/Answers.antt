use Rattle.std.proofs.Common.{arith}
use Rattle.stepper_terms.proofs.ContextPlug.{append_nothing}
use Rattle.stepper_terms.proofs.NextFocus.{body_ahead}
use Rattle.stepper_terms.proofs.contexts.Continuation.make.Goals as goal

pub returns : goal.returns
returns c = grind (arith, append_nothing, body_ahead)
