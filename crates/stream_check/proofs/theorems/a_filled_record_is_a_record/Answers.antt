use Rattle.stream_check.proofs.FilledReads.{filled_reads, same_of}
use Rattle.stream_check.proofs.theorems.a_filled_record_is_a_record.Goals as goal

pub returns : goal.returns
returns c = λ p names ls fs v h f few. filled_reads names ls fs h (same_of p ls fs v f) few
