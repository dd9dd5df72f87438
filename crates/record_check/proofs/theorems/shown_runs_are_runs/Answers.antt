use Rattle.record_check.proofs.RecordIsRun.{told}
use Rattle.record_check.proofs.theorems.shown_runs_are_runs.Goals as goal

pub returns : goal.returns
returns c = λ p l q first d r none written starts run. told p none written l q first d r starts run
