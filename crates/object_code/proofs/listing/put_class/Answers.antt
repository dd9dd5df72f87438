use Rattle.std.proofs.Common.{ap}
use Rattle.object_code.specs.Listing.{methods_text}
use Rattle.object_code.proofs.SequentialWrites.{same, then}
use Rattle.object_code.proofs.listing.put_class.Goals as goal

pub returns : goal.returns
returns g c =
    then _ _ _ _ _ c.put.ensures
    (then _ _ _ _ _ c.put_name.ensures
    (then _ _ _ _ _ c.put_number.ensures
    (then _ _ _ _ _ c.put-2.ensures
    (then _ _ _ _ _ (same _ _ _ _ (ap (methods_text c.args.names.now) c.items.ensures) c.put_methods.ensures) c.put_body.ensures))))
