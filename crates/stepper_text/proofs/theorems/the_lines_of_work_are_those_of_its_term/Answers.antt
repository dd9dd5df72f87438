use Rattle.stepper_text.proofs.WorkLines.{work_is}
use Rattle.stepper_text.proofs.theorems.the_lines_of_work_are_those_of_its_term.Goals as goal

pub returns : goal.returns
returns c = λ names o w. work_is names o w
