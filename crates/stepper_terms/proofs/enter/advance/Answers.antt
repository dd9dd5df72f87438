use Rattle.std.proofs.Common.{arith}
use Rattle.stepper_terms.proofs.ContextPlug.{left_more, nothing_left}
use Rattle.stepper_terms.proofs.enter.advance.Goals as goal

pub returns-in-Again : goal.returns-in-Again
returns-in-Again c = grind (arith, left_more, nothing_left)

pub returns-in-Some-split_first : goal.returns-in-Some-split_first
returns-in-Some-split_first c = grind (arith, left_more, nothing_left)

pub loop-segment-preserved : goal.loop-segment-preserved
loop-segment-preserved c = grind (arith, left_more, nothing_left)
