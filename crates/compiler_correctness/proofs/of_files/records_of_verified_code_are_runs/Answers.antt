use Rattle.compiler_correctness.proofs.TypeSafety.{record_is_code_run, record_is_code_run_on_wires}
use Rattle.compiler_correctness.proofs.of_files.records_of_verified_code_are_runs.Goals as goal

pub returns-clause-records : goal.returns-clause-records
returns-clause-records c = λ f l q es shaped good fit. record_is_code_run f shaped good l q es fit

pub returns-clause-on_wires : goal.returns-clause-on_wires
returns-clause-on_wires c = λ f l q es shaped good fit. record_is_code_run_on_wires f shaped good l q es fit
