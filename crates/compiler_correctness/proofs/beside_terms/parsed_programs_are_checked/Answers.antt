use Rattle.compiler_correctness.proofs.ParsedIsText.{parsed_checked}
use Rattle.compiler_correctness.proofs.beside_terms.parsed_programs_are_checked.Goals as goal

pub returns : goal.returns
returns c = parsed_checked
