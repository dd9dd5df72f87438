use Rattle.std.proofs.Common.{arith}
use Rattle.object_code.proofs.ReadLoops.{exactly_done, exactly_short}
use Rattle.object_code.proofs.file_reader.take_exactly.Goals as goal

pub returns-in-Err : goal.returns-in-Err
returns-in-Err c =
    exactly_short c.in-Err.fault c.args.expected.now c.args.bytes.now c.loop-byte.rest.now c.loop-byte.byte-index (omega arith) c.in-Err.ensures.none.0 c.in-Err.ensures.none.1 c.loop-byte.invariant

pub returns : goal.returns
returns c = exactly_done c.args.expected.now c.args.bytes.now c.loop-byte.rest.now c.loop-byte.byte-index (omega arith) c.loop-byte.invariant
