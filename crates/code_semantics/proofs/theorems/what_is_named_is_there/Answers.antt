use Rattle.run_types.specs.GivenProperties.{IsGiven}
use Rattle.code_semantics.proofs.KindsWellFormed.{made_there, served_there, chosen_there}
use Rattle.code_semantics.proofs.theorems.what_is_named_is_there.Goals as goal

pub returns-clause-made : goal.returns-clause-made
returns-clause-made r c = λ u all x k proper plain h e. made_there u proper (IsGiven all) plain x h k e

pub returns-clause-answered : goal.returns-clause-answered
returns-clause-answered r c = λ u all x names i m args s proper plain h e named. served_there u proper (IsGiven all) plain x h names i m args s e named

pub returns-clause-chosen : goal.returns-clause-chosen
returns-clause-chosen r c =
    λ u all x alts j a names i m args s proper plain h e at q named. chosen_there u proper (IsGiven all) plain x h alts j a names i m args s e at q named
