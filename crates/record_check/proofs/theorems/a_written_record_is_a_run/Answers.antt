use Rattle.record_check.proofs.RecordIsRun.{is_run, is_run_on_wires}
use Rattle.record_check.proofs.theorems.a_written_record_is_a_run.Goals as goal

pub returns-clause-records : goal.returns-clause-records
returns-clause-records c = λ p l q es none written fit some. is_run p none written l fit some q es

pub returns-clause-on_wires : goal.returns-clause-on_wires
returns-clause-on_wires c = λ p l q es none written fit some. is_run_on_wires p none written l fit some q es
