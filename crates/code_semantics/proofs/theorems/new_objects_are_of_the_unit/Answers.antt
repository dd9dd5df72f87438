use Rattle.run_types.specs.GivenProperties.{IsGiven}
use Rattle.code_semantics.proofs.StepInvariant.{placed_is_of, placed_rests, made_is_of, made_rests}
use Rattle.code_semantics.proofs.theorems.new_objects_are_of_the_unit.Goals as goal

pub returns-clause-placed : goal.returns-clause-placed
returns-clause-placed r c = λ u all n y proper plain e. (placed_is_of u proper (IsGiven all) plain n y e, placed_rests u proper (IsGiven all) plain n y e)

pub returns-clause-made : goal.returns-clause-made
returns-clause-made r c = λ u all k y proper plain e. (made_is_of u proper (IsGiven all) plain k y e, made_rests u proper (IsGiven all) plain k y e)
