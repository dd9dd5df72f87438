use Rattle.std.proofs.Common.{ap}
use Rattle.object_code.specs.Listing.{word_text}
use Rattle.object_code.proofs.SequentialWrites.{same, then}
use Rattle.object_code.proofs.listing.put_line.Goals as goal

pub returns : goal.returns
returns g c =
    then _ _ _ _ _ c.put_decimal.ensures
    (then _ _ _ _ _ (same _ _ _ _ (ap word_text c.mnemonic.ensures) c.put_word.ensures) (then _ _ _ _ _ c.put_operands.ensures c.put.ensures))
