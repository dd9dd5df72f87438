use Rattle.pool_driver.proofs.ReadableFiles.{file_reads, file_reads_on_wires}
use Rattle.pool_driver.proofs.unit_theorems.records_of_files_are_readable.Goals as goal

pub returns-clause-records : goal.returns-clause-records
returns-clause-records c = λ f l q es shaped good writable suits most few each. file_reads f shaped good writable l suits q most es few each

pub returns-clause-on_wires : goal.returns-clause-on_wires
returns-clause-on_wires c = λ f l q es shaped good writable suits most few each. file_reads_on_wires f shaped good writable l suits q most es few each
