use Rattle.compiler_correctness.proofs.TypeSafety.{nobody_goes_wrong}
use Rattle.compiler_correctness.proofs.of_files.no_object_of_code_goes_wrong.Goals as goal

pub returns : goal.returns
returns c = λ f d o x shaped good w e. nobody_goes_wrong f shaped good d w o x e
