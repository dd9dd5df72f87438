use Rattle.object_code.proofs.SequentialWrites.{then}
use Rattle.object_code.proofs.listing.put_alternative.Goals as goal

pub returns : goal.returns
returns g c = then _ _ _ _ _ c.put.ensures (then _ _ _ _ _ c.put_answer.ensures (then _ _ _ _ _ c.put-2.ensures c.put_decimal.ensures))
