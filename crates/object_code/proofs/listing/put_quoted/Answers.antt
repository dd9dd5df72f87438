use Rattle.object_code.proofs.SequentialWrites.{then}
use Rattle.object_code.proofs.listing.put_quoted.Goals as goal

pub returns : goal.returns
returns g c = then _ _ _ _ _ c.put_word.ensures (then _ _ _ _ _ c.put_text.ensures c.put.ensures)
