use Rattle.compiler_correctness.proofs.Records.{code_start}
use Rattle.compiler_correctness.proofs.beside_terms.code_starts_as_terms.Goals as goal

pub returns : goal.returns
returns c = λ p u l k checked unit s. code_start p u checked unit l k s
