use Rattle.compiler_correctness.proofs.Records.{code_standing, code_cycles}
use Rattle.compiler_correctness.proofs.beside_terms.code_stands_as_terms.Goals as goal

pub returns-clause-objects : goal.returns-clause-objects
returns-clause-objects c = λ p u k e d o checked unit z. code_standing p u checked unit k e d o z

pub returns-clause-cycles : goal.returns-clause-cycles
returns-clause-cycles c = λ p u k e d checked unit z. code_cycles p u checked unit k e d z
