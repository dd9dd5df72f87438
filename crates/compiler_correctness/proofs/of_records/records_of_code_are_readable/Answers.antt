use Rattle.compiler_correctness.proofs.NamedCode.{code_reads, code_reads_on_wires}
use Rattle.compiler_correctness.proofs.of_records.records_of_code_are_readable.Goals as goal

pub returns-clause-records : goal.returns-clause-records
returns-clause-records x = λ u l q es proper spelled sends suits most few each. code_reads u proper spelled sends l suits q most es few each

pub returns-clause-on_wires : goal.returns-clause-on_wires
returns-clause-on_wires x = λ u l q es proper spelled sends suits most few each. code_reads_on_wires u proper spelled sends l suits q most es few each
