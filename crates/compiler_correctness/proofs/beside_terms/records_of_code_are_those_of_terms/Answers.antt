use Rattle.compiler_correctness.proofs.Records.{code_record, code_record_on_wires}
use Rattle.compiler_correctness.proofs.beside_terms.records_of_code_are_those_of_terms.Goals as goal

pub returns-clause-records : goal.returns-clause-records
returns-clause-records c = λ p u l q es checked unit fit. code_record p u checked unit l q es fit

pub returns-clause-on_wires : goal.returns-clause-on_wires
returns-clause-on_wires c = λ p u l q es checked unit fit. code_record_on_wires p u checked unit l q es fit
