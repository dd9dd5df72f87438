use Rattle.std.proofs.Common.{refl}
use Rattle.visited_set.proofs.FailedResults.{some_not}
use Rattle.visited_set.proofs.visited.VisitedSet.add.Goals as goal

pub returns-in_default-clause-added : goal.returns-in_default-clause-added
returns-in_default-clause-added c = tt

pub returns-in_default-clause-none : goal.returns-in_default-clause-none
returns-in_default-clause-none c = λ told. refl

pub returns-in_default-clause-error : goal.returns-in_default-clause-error
returns-in_default-clause-error c = tt

pub returns-in_default-clause-program : goal.returns-in_default-clause-program
returns-in_default-clause-program c = refl

pub returns-in_default-clause-lists : goal.returns-in_default-clause-lists
returns-in_default-clause-lists c = refl

pub returns-in_err-push-clause-program : goal.returns-in_err-push-clause-program
returns-in_err-push-clause-program c = refl

pub returns-in_err-push-clause-lists : goal.returns-in_err-push-clause-lists
returns-in_err-push-clause-lists c = refl

pub returns-clause-none : goal.returns-clause-none
returns-clause-none c = λ told. absurd (some_not _ refl told)

pub returns-clause-full : goal.returns-clause-full
returns-clause-full c = λ told. absurd (some_not _ refl told)

pub returns-clause-error : goal.returns-clause-error
returns-clause-error c = tt

pub returns-clause-program : goal.returns-clause-program
returns-clause-program c = refl

pub returns-clause-lists : goal.returns-clause-lists
returns-clause-lists c = refl
