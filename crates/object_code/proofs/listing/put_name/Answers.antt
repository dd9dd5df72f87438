use Rattle.object_code.proofs.SequentialWrites.{then}
use Rattle.object_code.proofs.listing.put_name.Goals as goal

pub returns : goal.returns
returns g c = then _ _ _ _ _ c.put.ensures c.put_text.ensures
