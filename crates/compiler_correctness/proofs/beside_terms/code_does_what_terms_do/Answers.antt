use Rattle.compiler_correctness.proofs.Records.{code_simulates}
use Rattle.compiler_correctness.proofs.beside_terms.code_does_what_terms_do.Goals as goal

pub returns : goal.returns
returns c = λ p u checked unit. code_simulates p u checked unit
