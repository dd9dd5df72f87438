use Rattle.compiler_correctness.proofs.TypePreservation.{verified_lawful}
use Rattle.compiler_correctness.proofs.of_files.verified_code_is_lawful.Goals as goal

pub returns : goal.returns
returns c = λ f shaped good. verified_lawful f shaped good
