use Rattle.compiler_correctness.proofs.OneMachine.{machine_has_code}
use Rattle.compiler_correctness.proofs.beside_terms.what_a_machine_stands_for_has_code.Goals as goal

pub returns : goal.returns
returns c = λ p u l m first d k e f checked unit s t sound same stands. machine_has_code p u checked unit l m first d k e f s t sound same stands
