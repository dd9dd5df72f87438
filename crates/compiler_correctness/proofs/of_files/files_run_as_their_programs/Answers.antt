use Rattle.compiler_correctness.proofs.CompileThenLoad.{grammatical_loads, grammatical_loads_on_wires}
use Rattle.compiler_correctness.proofs.of_files.files_run_as_their_programs.Goals as goal

pub returns-clause-records : goal.returns-clause-records
returns-clause-records c = λ names p l q es m none suits. grammatical_loads names p l q es m none suits

pub returns-clause-on_wires : goal.returns-clause-on_wires
returns-clause-on_wires c = λ names p l q es m none suits. grammatical_loads_on_wires names p l q es m none suits
