use Rattle.std.proofs.Common.{refl, ap}
use Rattle.object_code.specs.Listing.{classes_text}
use Rattle.object_code.proofs.SequentialWrites.{front, same}
use Rattle.object_code.proofs.listing.list_code.Goals as goal

pub returns-then-failed-clause-front : goal.returns-then-failed-clause-front
returns-then-failed-clause-front g c =
    front _ _ _ (same _ _ _ _ (ap (classes_text c.args.unit.now.names) c.items.ensures) c.put_classes.ensures) refl c.if-failed.true
