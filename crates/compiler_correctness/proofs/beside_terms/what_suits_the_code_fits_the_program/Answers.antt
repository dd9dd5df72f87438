use Rattle.compiler_correctness.proofs.SuitsImpliesFits.{suits_fits}
use Rattle.compiler_correctness.proofs.beside_terms.what_suits_the_code_fits_the_program.Goals as goal

pub returns : goal.returns
returns c = suits_fits
