use Rattle.mesh_of_terms.proofs.RecordIsRun.{runs_from, runs_from_on_wires, ends_on_wires}
use Rattle.mesh_of_terms.proofs.theorems.records_are_runs.Goals as goal

pub returns-clause-records : goal.returns-clause-records
returns-clause-records c = λ p l q es k none written fit s. runs_from p none written l fit q es k s

pub returns-clause-on_wires : goal.returns-clause-on_wires
returns-clause-on_wires c = λ p l q es k none written fit s. runs_from_on_wires p none written l fit q es k s

pub returns-clause-wires : goal.returns-clause-wires
returns-clause-wires c = λ p l q es. ends_on_wires p l q es
