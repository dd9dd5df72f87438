use Rattle.object_code.proofs.SequentialWrites.{then}
use Rattle.object_code.proofs.listing.put_message.Goals as goal

pub returns : goal.returns
returns g c = then _ _ _ _ _ c.put_name.ensures c.put_number.ensures
