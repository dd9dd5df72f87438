use Rattle.compiler_correctness.proofs.ReachableHasCode.{has_code}
use Rattle.compiler_correctness.proofs.beside_terms.what_a_run_reaches_has_code.Goals as goal

pub returns : goal.returns
returns r = λ p u l first labs c checked unit proper starts leads. has_code p u checked unit proper l first labs c starts leads
