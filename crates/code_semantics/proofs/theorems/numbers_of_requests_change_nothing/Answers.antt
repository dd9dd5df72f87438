use Rattle.run_types.specs.GivenProperties.{IsGiven}
use Rattle.code_semantics.proofs.NumberErasure.{forget_stepped, forget_given, forget_gone_on, forget_picked, forget_serving, forget_placed, forget_code_kind, forget_of, forget_at_step}
use Rattle.code_semantics.proofs.theorems.numbers_of_requests_change_nothing.Goals as goal

pub returns-clause-stepped : goal.returns-clause-stepped
returns-clause-stepped r c = λ u o x. forget_stepped u o x

pub returns-clause-given : goal.returns-clause-given
returns-clause-given r c = λ u x v. forget_given u x v

pub returns-clause-gone_on : goal.returns-clause-gone_on
returns-clause-gone_on r c = λ u x. forget_gone_on u x

pub returns-clause-picked : goal.returns-clause-picked
returns-clause-picked r c = λ u x i. forget_picked u x i

pub returns-clause-serving : goal.returns-clause-serving
returns-clause-serving r c = λ u x i m args s. forget_serving u x i m args s

pub returns-clause-placed : goal.returns-clause-placed
returns-clause-placed r c = λ u n. forget_placed u n

pub returns-clause-kind : goal.returns-clause-kind
returns-clause-kind r c = λ u x. forget_code_kind u x

pub returns-clause-of_unit : goal.returns-clause-of_unit
returns-clause-of_unit r c = λ u all x. forget_of u (IsGiven all) x

pub returns-clause-at_step : goal.returns-clause-at_step
returns-clause-at_step r c = λ u x. forget_at_step u x
