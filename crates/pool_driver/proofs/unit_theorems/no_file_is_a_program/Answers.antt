use Rattle.pool_driver.proofs.NoProgram.{no_program}
use Rattle.pool_driver.proofs.unit_theorems.no_file_is_a_program.Goals as goal

pub returns : goal.returns
returns c = no_program
