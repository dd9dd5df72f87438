use Rattle.std.proofs.Common.{refl}
use Rattle.pool_printer.proofs.SequentialOutput.{puts_same, said}
use Rattle.pool_printer.proofs.token_writer.say.Goals as goal

pub returns : goal.returns
returns g c = said _ _ _ _ _ _ (puts_same _ _ _ _ c.gap.ensures c.put.ensures.text) c.spell.ensures.text refl refl refl refl
