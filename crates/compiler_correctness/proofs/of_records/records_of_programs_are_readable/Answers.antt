use Rattle.compiler_correctness.proofs.ReadablePrograms.{program_reads, program_reads_on_wires}
use Rattle.compiler_correctness.proofs.of_records.records_of_programs_are_readable.Goals as goal

pub returns-clause-records : goal.returns-clause-records
returns-clause-records x = λ source names p l q es parsed none proper suits most few each. program_reads source names p l q es parsed none proper suits most few each

pub returns-clause-on_wires : goal.returns-clause-on_wires
returns-clause-on_wires x = λ source names p l q es parsed none proper suits most few each. program_reads_on_wires source names p l q es parsed none proper suits most few each
