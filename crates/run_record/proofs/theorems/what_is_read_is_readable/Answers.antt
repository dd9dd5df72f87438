use Rattle.run_record.proofs.LineOrder.{record_readable}
use Rattle.run_record.proofs.theorems.what_is_read_is_readable.Goals as goal

pub returns : goal.returns
returns c = record_readable
