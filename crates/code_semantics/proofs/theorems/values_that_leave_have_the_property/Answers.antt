use Rattle.run_types.specs.GivenProperties.{IsGiven}
use Rattle.code_semantics.proofs.KindsWellFormed.{send_values, async_values, return_value}
use Rattle.code_semantics.proofs.theorems.values_that_leave_have_the_property.Goals as goal

pub returns-clause-called : goal.returns-clause-called
returns-clause-called r c = λ u all x b m args proper plain h e. send_values u proper (IsGiven all) plain x h b m args e

pub returns-clause-sent : goal.returns-clause-sent
returns-clause-sent r c = λ u all x b m args proper plain h e. async_values u proper (IsGiven all) plain x h b m args e

pub returns-clause-returned : goal.returns-clause-returned
returns-clause-returned r c = λ u all x k n v proper plain h e. return_value u proper (IsGiven all) plain x h k n v e
