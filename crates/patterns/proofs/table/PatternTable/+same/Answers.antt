use Rattle.patterns.specs.Tables.{patterns}
use Rattle.patterns.proofs.StepFacts.{alike_itself}
use Rattle.patterns.proofs.table.PatternTable.+same.Goals as goal

pub returns-then-one-other : goal.returns-then-one-other
returns-then-one-other t c = alike_itself (patterns c.args.self.now) c.args.one c.args.other c.if-one-other.true
