use Rattle.std.proofs.Common.{sym, ap}
use Rattle.object_code.specs.Listing.{joined_text}
use Rattle.object_code.proofs.SequentialWrites.{same, then}
use Rattle.object_code.proofs.listing.put_joined.Goals as goal

pub returns-in-Some : goal.returns-in-Some
returns-in-Some g c =
    same _ _ _ _ (ap (joined_text c.args.names.now) (sym c.in-Some.ensures.cases.0)) (then _ _ _ _ _ c.put_text.ensures c.put_led_by_commas.ensures)
