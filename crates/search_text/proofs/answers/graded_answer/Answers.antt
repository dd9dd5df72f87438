use Rattle.std.proofs.Common.{◌≡◌, subst, true, false}
use Rattle.pool_syntax.specs.TreeOf.{program_of}
use Rattle.search_text.specs.Answers as A
use Rattle.search_text.specs.Answers.{any_wrong, finds_nothing_wrong}
use Rattle.search_text.specs.declared.answers.Found.{Found}
use Rattle.search_text.proofs.GradeLaws.{finite_of}
use Rattle.search_text.proofs.answers.graded_answer.Goals as goal

pub returns-in-Shown : goal.returns-in-Shown
returns-in-Shown g c = A.by_ends c.in_ok-ends.ensures (λ h. absurd (let z : false ≡ true = subst (λ (f : Found). finds_nothing_wrong f ≡ true) c.in-Shown.is h in cc))

pub returns-in-Finite : goal.returns-in-Finite
returns-in-Finite g c =
    A.by_ends c.in_ok-ends.ensures (λ h. finite_of c.args.names.now (program_of c.args.program.now.program.now) (any_wrong c.args.most) c.in_ok-wrong.wrong.text.items c.in_ok-wrong.wrong.found c.in_ok-wrong.ensures c.in-Finite.is)

pub returns-in-Over-found : goal.returns-in-Over-found
returns-in-Over-found g c = A.by_ends c.in_ok-ends.ensures (λ h. absurd (let z : false ≡ true = subst (λ (f : Found). finds_nothing_wrong f ≡ true) c.in-Over.is h in cc))

pub returns : goal.returns
returns g c = A.by_search c.in_ok-wrong.ensures c.in_default-found.not-Finite
