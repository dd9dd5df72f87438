use Rattle.object_code.proofs.SequentialWrites.{same, text_of}
use Rattle.object_code.proofs.listing.put_text.Goals as goal

pub returns : goal.returns
returns g c = same _ _ _ _ (text_of c.args.names.now c.args.id.0 _ c.text.ensures) c.put.ensures
