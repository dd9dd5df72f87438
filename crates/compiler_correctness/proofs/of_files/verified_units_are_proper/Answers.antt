use Rattle.compiler_correctness.proofs.ProperUnits.{verified_is_proper}
use Rattle.compiler_correctness.proofs.of_files.verified_units_are_proper.Goals as goal

pub returns : goal.returns
returns c = λ f shaped good. verified_is_proper f shaped good
