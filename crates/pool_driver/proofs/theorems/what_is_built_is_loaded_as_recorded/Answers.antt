use Rattle.compiler_correctness.specs.DeclaredKinds.{file_of}
use Rattle.pool_driver.proofs.BuildThenLoad.{loaded_as_recorded, placements_same, recorded_as_loaded, schedules_same}
use Rattle.pool_driver.proofs.theorems.what_is_built_is_loaded_as_recorded.Goals as goal

pub returns-clause-accepted : goal.returns-clause-accepted
returns-clause-accepted c = λ source bytes b. (file_of b.names b.program, b.built)

pub returns-clause-placements : goal.returns-clause-placements
returns-clause-placements c = λ source bytes place b. placements_same c.a_text_has_one_program.ensures source bytes b place

pub returns-clause-schedules : goal.returns-clause-schedules
returns-clause-schedules c = λ source bytes place plan b. schedules_same c.a_text_has_one_program.ensures source bytes b place plan

pub returns-clause-loaded : goal.returns-clause-loaded
returns-clause-loaded c = λ source bytes place plan text status b r. loaded_as_recorded c.a_text_has_one_program.ensures source bytes b place plan text status r

pub returns-clause-recorded : goal.returns-clause-recorded
returns-clause-recorded c = λ source bytes place plan text status b r. recorded_as_loaded c.a_text_has_one_program.ensures source bytes b place plan text status r
