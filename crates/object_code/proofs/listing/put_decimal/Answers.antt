use Rattle.std.proofs.Common.{◌≡◌, decimal, rules}
use Rattle.object_code.proofs.SequentialWrites.{same}
use Rattle.object_code.proofs.listing.put_decimal.Goals as goal

pub returns : goal.returns
returns g c = let printed : c.as_bytes.result.now ≡ decimal c.args.value = search rules in same _ _ _ _ printed c.put.ensures
