use Rattle.std.proofs.Common.{◌≡◌, ap, sym, ◌∙◌, subst, Some, true}
use Rattle.std.specs.Prelude.{IfSome}
use Rattle.std.specs.List.{slice_get}
use Rattle.std.proofs.lemmas.Option.{slice_get-get_or}
use Rattle.run_types.proofs.Laws.{same_some}
use Rattle.visited_set.specs.Courses.{course_of}
use Rattle.pool_search.specs.Entries.{entries, searched}
use Rattle.pool_search.specs.Trials.{IsBirthAt, is_birth}
use Rattle.pool_search.proofs.EntryExpansion.{by_birth}
use Rattle.pool_search.proofs.explored.Explored.try_birth.Goals as goal

pub returns-clause-expanded : goal.returns-clause-expanded
returns-clause-expanded c = λ i told e g.
    let ls = c.args.labels.now in
    let label = c.in-Some-get.label.now in
    let next = c.next_name.result in
    let b : IsBirthAt next ls c.in-Some.place = c.in-Some.ensures in
    let l = c.in-Some-get.ensures.lookup in
    let there : slice_get ls c.in-Some.place ≡ Some label = slice_get-get_or ls c.in-Some.place _ l.3.0 ∙ ap Some (sym l.1) in
    let named = subst (λ o. IfSome o (λ x. next ≡ x.next)) g c.next_name.ensures in
    let births : is_birth e.next label ≡ true = ap (λ n. is_birth n label) (sym named) ∙ ap (is_birth next) (same_some (sym there ∙ b.there)) ∙ b.births in
    by_birth (searched c.args.self.now) (course_of c.args.scope.keeps) (entries c.follow.new.self) c.args.at e label i births (c.follow.ensures.led i told e g)
