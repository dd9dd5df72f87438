use Rattle.std.proofs.Common.{◌≡◌, arith}
use Rattle.object_code.specs.Decode.{Says, decode}
use Rattle.object_code.proofs.Shorts.{are_bytes, said_is_shaped, said_is_short}
use Rattle.object_code.proofs.file_reader.decode.Goals as goal

pub returns-in-Ok-check_whole-clause-says : goal.returns-in-Ok-check_whole-clause-says
returns-in-Ok-check_whole-clause-says c = c.in-Ok-check_whole.ensures.says c.in-Ok.file c.in-Ok.ensures.given

pub returns-in-Ok-check_whole-clause-shaped : goal.returns-in-Ok-check_whole-clause-shaped
returns-in-Ok-check_whole-clause-shaped c =
    let e : decode c.args.bytes.now ≡ Says c.in-Ok.file = c.in-Ok-check_whole.ensures.says c.in-Ok.file c.in-Ok.ensures.given in
    said_is_shaped c.args.bytes.now c.in-Ok.file (are_bytes c.args.bytes.now (λ i. omega (arith, c.type_inv.bytes i))) e

pub returns-in-Ok-check_whole-clause-short : goal.returns-in-Ok-check_whole-clause-short
returns-in-Ok-check_whole-clause-short c =
    let e : decode c.args.bytes.now ≡ Says c.in-Ok.file = c.in-Ok-check_whole.ensures.says c.in-Ok.file c.in-Ok.ensures.given in
    said_is_short c.args.bytes.now c.in-Ok.file (are_bytes c.args.bytes.now (λ i. omega (arith, c.type_inv.bytes i))) e

pub returns-in-Err-clause-tells : goal.returns-in-Err-clause-tells
returns-in-Err-clause-tells c = c.in-Err.ensures.tells c.in-Ok.file c.in-Ok.ensures.given
