use Rattle.search_text.proofs.GradeLaws.{pass_runs_well}
use Rattle.search_text.proofs.theorems.each_run_of_a_pass_ends_well.Goals as goal

pub returns : goal.returns
returns c = λ names allowed p may_run_on most text grade. pass_runs_well names allowed p may_run_on most text grade
