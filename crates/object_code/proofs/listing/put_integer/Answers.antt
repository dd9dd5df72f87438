use Rattle.std.proofs.Common.{ap, ◌∙◌}
use Rattle.std.specs.Fmt.{signed_decimal}
use Rattle.std.specs.Int.{w64}
use Rattle.std.proofs.lemmas.Int.{to_z-of_z}
use Rattle.object_code.specs.Listing.{word_text}
use Rattle.object_code.proofs.SequentialWrites.{same}
use Rattle.object_code.proofs.listing.put_integer.Goals as goal

pub returns : goal.returns
returns g c =
    same (word_text c.as_bytes.result.now) (word_text (signed_decimal c.args.value)) _ _
    (ap word_text (c.as_bytes.ensures.value ∙ c.format.ensures.text ∙ ap signed_decimal (to_z-of_z w64 c.args.value c.ranges.value))) c.put_word.ensures
