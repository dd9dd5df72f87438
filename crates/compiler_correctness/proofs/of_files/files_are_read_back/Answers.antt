use Rattle.compiler_correctness.proofs.CompileThenLoad.{read_back}
use Rattle.compiler_correctness.proofs.of_files.files_are_read_back.Goals as goal

pub returns : goal.returns
returns c = λ f w d. read_back f w d
