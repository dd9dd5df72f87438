use Rattle.std.proofs.Common.{◌≡◌, refl, subst, Some, true, slice_get}
use Rattle.std.specs.Prelude.{IfOk, IfSome}
use Rattle.std.specs.List.{filter}
use Rattle.run_types.specs.declared.types.Label.{Label}
use Rattle.pool_relation.specs.Configuration.{Configuration}
use Rattle.pool_relation.specs.Transition.{transition}
use Rattle.reachability.specs.Search.{IsInOrder}
use Rattle.search_laws.specs.Outcomes.{Passed}
use Rattle.search_laws.specs.Stubborn.{IsAwaited, is_served}
use Rattle.search_laws.specs.Tried.{AllLeadInto}
use Rattle.visited_set.specs.Courses.{course_of}
use Rattle.pool_search.specs.Entries.{entries, searched}
use Rattle.pool_search.specs.Trials.{is_asked, is_tried}
use Rattle.pool_search.proofs.EntryExpansion.{by_those, can_move}
use Rattle.pool_search.proofs.ListGrowth.{each_at}
use Rattle.pool_search.proofs.explored.Explored.try_object.Goals as goal

pub returns-clause-expanded : goal.returns-clause-expanded
returns-clause-expanded c = λ i told e g.
    let p = searched c.args.self.now in
    let k = course_of c.args.scope.keeps in
    let old = entries c.args.self.now in
    let es = entries c.try_labels.new.self in
    let b = c.args.object in
    let at = c.args.at in
    let asked = is_asked (Some b) in
    let labels = c.args.labels.now in
    let sorted : IsInOrder e.configuration = each_at (λ (x : Passed). IsInOrder x.configuration) old at e c.requires.in_order g in
    let enough : (l : Label) (d : Configuration) → is_served b l ≡ true → transition p e.configuration l ≡ Some d → IsAwaited p e.next b e.configuration =
    (subst (λ o. IfSome o (λ x. IsInOrder x.configuration → (l : Label) (d : Configuration) → is_served b l ≡ true → transition p x.configuration l ≡ Some d → IsAwaited p x.next b x.configuration)) g
    (c.are_enough.ensures c.if-not-are_enough.false)) sorted
    in
    let all : AllLeadInto p k es e.next e.items e.configuration (filter asked labels) =
    (subst (λ r. IfOk r (λ t. is_tried t ≡ true → (x : Passed) → slice_get old at ≡ Some x → AllLeadInto p k es x.next x.items x.configuration (filter asked labels))) told c.try_labels.ensures.tried) refl e
    g
    in
    let on = c.try_labels.ensures.led i told e g in (
      by_those p k es at e b i enough (subst (λ ls. AllLeadInto p k es e.next e.items e.configuration (filter asked ls)) (c.requires.labels e g) all) on,
      can_move p k es at e (Some b) i on,
    )
