use Rattle.std.proofs.Common.{◌≡◌, ap, ◌∙◌, ◌∷◌, []}
use Rattle.std.specs.Int.{w64, to_be_bytes, cast_unsigned}
use Rattle.std.proofs.lemmas.Int.{to_z-of_z}
use Rattle.object_code.specs.FileBytes.{integer_bytes}
use Rattle.object_code.proofs.SequentialWrites.{same, then}
use Rattle.object_code.proofs.file_writer.put_long.Goals as goal

pub returns : goal.returns
returns g c =
    let e : c.to_be_bytes.result ≡ integer_bytes c.args.integer =
    c.to_be_bytes.ensures ∙ ap (to_be_bytes w64) (c.cast_unsigned.ensures ∙ ap (cast_unsigned w64) (to_z-of_z w64 c.args.integer c.ranges.integer)) in
    then (c.args.byte ∷ []) (integer_bytes c.args.integer) _ _ _ c.put_byte.ensures (same c.to_be_bytes.result (integer_bytes c.args.integer) _ _ e c.put.ensures)
