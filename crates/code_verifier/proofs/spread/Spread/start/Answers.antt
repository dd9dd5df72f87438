use Rattle.std.proofs.Common.{◌∙◌, ap, map}
use Rattle.code_typing.specs.StackEffects.{stack_at}
use Rattle.code_verifier.proofs.SpreadSteps.{none_seen}
use Rattle.code_verifier.proofs.spread.Spread.start.Goals as goal

pub returns-clause-table : goal.returns-clause-table
returns-clause-table c = ap (map (stack_at c.make.result)) c.in_ok-unreached.ensures ∙ (none_seen c.make.result c.args.size).0
