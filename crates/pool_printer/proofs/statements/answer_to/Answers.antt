use Rattle.pool_printer.proofs.SequentialOutput.{prints_more}
use Rattle.pool_printer.proofs.statements.answer_to.Goals as goal

pub returns : goal.returns
returns g c = prints_more _ _ _ _ _ _ c.say.ensures c.list.ensures
