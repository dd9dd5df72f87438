use Rattle.wire_link.proofs.WriteThenRead.{frame_read}
use Rattle.wire_link.proofs.ReadThenWrite.{frame_written}
use Rattle.wire_link.proofs.theorems.encodings_are_read_back.Goals as goal

pub returns-clause-read : goal.returns-clause-read
returns-clause-read c = λ f h. frame_read f h

pub returns-clause-written : goal.returns-clause-written
returns-clause-written c = λ bs f s h. frame_written bs f s h
