use Rattle.run_types.specs.GivenProperties.{IsGiven}
use Rattle.code_semantics.proofs.StepInvariant.{stepped_of, given_of, gone_on_of, picked_of, serving_of}
use Rattle.code_semantics.proofs.theorems.steps_keep_objects_of_the_unit.Goals as goal

pub returns-clause-stepped : goal.returns-clause-stepped
returns-clause-stepped r c = λ u all x o proper plain h p. stepped_of u proper (IsGiven all) plain x h o p

pub returns-clause-given : goal.returns-clause-given
returns-clause-given r c = λ u all x v proper plain h p a. given_of u proper (IsGiven all) plain x h v p a

pub returns-clause-gone_on : goal.returns-clause-gone_on
returns-clause-gone_on r c = λ u all x proper plain h a. gone_on_of u proper (IsGiven all) plain x h a

pub returns-clause-picked : goal.returns-clause-picked
returns-clause-picked r c = λ u all x i proper plain h a. picked_of u proper (IsGiven all) plain x h i a

pub returns-clause-serving : goal.returns-clause-serving
returns-clause-serving r c = λ u all x i m args s y proper plain h a each own e. serving_of u proper (IsGiven all) plain x h i m args s y a each own e
