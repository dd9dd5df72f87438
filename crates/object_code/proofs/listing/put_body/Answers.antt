use Rattle.std.proofs.Common.{ap}
use Rattle.object_code.specs.Listing.{lines_text}
use Rattle.object_code.proofs.SequentialWrites.{same, then}
use Rattle.object_code.proofs.listing.put_body.Goals as goal

pub returns : goal.returns
returns g c =
    then _ _ _ _ _ c.put.ensures
    (then _ _ _ _ _ c.put_number.ensures
    (then _ _ _ _ _ c.put-2.ensures (same _ _ _ _ (ap (lines_text c.args.names.now 0) c.items.ensures) c.put_lines.ensures)))
