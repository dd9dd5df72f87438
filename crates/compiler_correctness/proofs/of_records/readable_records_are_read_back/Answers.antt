use Rattle.compiler_correctness.proofs.RecordRoundTrip.{parsed_distinct, reads_back}
use Rattle.compiler_correctness.proofs.of_records.readable_records_are_read_back.Goals as goal

pub returns : goal.returns
returns x = λ source names p ls parsed h. reads_back names ls (parsed_distinct source names p parsed) h
