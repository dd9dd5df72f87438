use Rattle.std.proofs.Common.{◌∙◌, ◌++◌, ◌∷◌, [], ap}
use Rattle.std.specs.Prelude.{None}
use Rattle.code_verifier.proofs.SpreadSteps.{one_more_none}
use Rattle.code_verifier.proofs.spread.unreached.Goals as goal

pub loop-preserved : goal.loop-preserved
loop-preserved c = c.in-Ok.ensures.items ∙ ap (λ l. l ++ None ∷ []) c.loop.invariant ∙ one_more_none c.loop.counter
