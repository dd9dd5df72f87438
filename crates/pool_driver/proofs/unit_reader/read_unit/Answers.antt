use Rattle.std.proofs.Common.{refl, arith}
use Rattle.object_code.proofs.Laws.{encode_decode, are_bytes}
use Rattle.compiler_correctness.proofs.Laws.{verified_is_proper}
use Rattle.pool_driver.proofs.OneFilePerText.{verify_fault}
use Rattle.pool_driver.proofs.unit_reader.read_unit.Goals as goal

pub returns-in-Err-verify-clause-fault : goal.returns-in-Err-verify-clause-fault
returns-in-Err-verify-clause-fault c =
    verify_fault c.args.bytes.now c.in-Ok.file c.in-Err-verify.fault c.of_code.result c.of_code.ensures c.in-Ok.ensures.says c.in-Err-verify.ensures.header c.in-Err-verify.ensures.code

pub returns-clause-ok : goal.returns-clause-ok
returns-clause-ok c =
    let f = c.in-Ok.file in
    let shaped = c.in-Ok.ensures.shaped in
    let good = c.in-Ok-verify.ensures.good refl in
    let written = (encode_decode c.args.bytes.now f (are_bytes c.args.bytes.now (λ i. omega (arith, c.type_inv.bytes i))) c.in-Ok.ensures.says).1 in
    record {
      file = f;
      is_file = record { said = c.in-Ok.ensures.says; verified = good };
      is_unit = refl;
      shaped = shaped;
      proper = verified_is_proper f shaped good;
      writable = written;
    }
