use Rattle.run_types.specs.GivenProperties.{IsGiven}
use Rattle.code_semantics.proofs.StepInvariant.{stepped_rests, given_rests, gone_on_rests, picked_rests, serving_rests}
use Rattle.code_semantics.proofs.theorems.steps_come_to_rest.Goals as goal

pub returns-clause-stepped : goal.returns-clause-stepped
returns-clause-stepped r c = λ u all x o proper plain h p q. stepped_rests u proper (IsGiven all) plain x h o p q

pub returns-clause-given : goal.returns-clause-given
returns-clause-given r c = λ u all x v proper plain h p a q. given_rests u proper (IsGiven all) plain x h v p a q

pub returns-clause-gone_on : goal.returns-clause-gone_on
returns-clause-gone_on r c = λ u all x proper plain h a q. gone_on_rests u proper (IsGiven all) plain x h a q

pub returns-clause-picked : goal.returns-clause-picked
returns-clause-picked r c = λ u all x i proper plain h a q. picked_rests u proper (IsGiven all) plain x h i a q

pub returns-clause-serving : goal.returns-clause-serving
returns-clause-serving r c = λ u all x i m args s y proper plain h a each own e q. serving_rests u proper (IsGiven all) plain x h i m args s y a each own e q
