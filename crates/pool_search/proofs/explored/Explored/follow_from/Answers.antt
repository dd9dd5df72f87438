use Rattle.std.proofs.Common.{◌≡◌, refl, ◌<◌, ◌++◌, List, [], get_or, subst, sym, ap, ◌∙◌, Some, None, Err, length}
use Rattle.std.specs.Prelude.{IfSome}
use Rattle.run_types.specs.declared.types.Item.{Item}
use Rattle.pool_syntax.specs.Terms.{ProgramTree}
use Rattle.pool_relation.specs.Configuration.{Configuration}
use Rattle.pool_relation.specs.Transition.{transition}
use Rattle.pool_semantics.specs.PlainOf.{configuration_of}
use Rattle.reachability.specs.Search.{after as after_label}
use Rattle.search_laws.specs.Outcomes.{Passed}
use Rattle.search_laws.specs.Tried.{LeadsAt}
use Rattle.visited_set.specs.Courses.{course_of}
use Rattle.pool_search.specs.Entries.{entries, lists, searched}
use Rattle.pool_search.specs.Progress.{Entries, Grows, IsReachedWith}
use Rattle.pool_search.specs.Trials.{SettlesAt}
use Rattle.pool_search.proofs.ListGrowth.{as_it_is, each_at}
use Rattle.pool_search.proofs.RunExtension.{reached_more}
use Rattle.pool_search.proofs.EntryExpansion.{entry_there, items_after, led_at}
use Rattle.pool_search.proofs.TrialResults.{failed_not, led_tried, over_led, over_tried, tried_led, untrue}
use Rattle.pool_search.proofs.explored.Explored.follow_from.Goals as goal

pub returns-in-Err-NotPossible-clause-impossible : goal.returns-in-Err-NotPossible-clause-impossible
returns-in-Err-NotPossible-clause-impossible c = λ told e there.
    let p = searched c.args.self.now in
    let label = c.args.label.now in
    let from = configuration_of c.args.plain.now in
    let is : from ≡ e.configuration = subst (λ o. IfSome o (λ x. from ≡ x.configuration)) there c.requires.at in
    let none : transition p from label ≡ None = subst (λ (q : ProgramTree). transition q from label ≡ None) c.requires.same (c.in-Err-NotPossible.ensures.refused c.in-Err-NotPossible.field-0-0 (ap Err c.in-Err-NotPossible.field-0-is)).0 in
    subst (λ (d : Configuration). transition p d label ≡ None) is none

pub settle_and_keep-requires-clause-reached : goal.settle_and_keep-requires-clause-reached
settle_and_keep-requires-clause-reached c =
    let p = searched c.args.self.now in
    let k = course_of c.args.scope.keeps in
    let at = c.args.origin.from in
    let label = c.args.label.now in
    let from = configuration_of c.args.plain.now in
    let to = configuration_of c.apply.new.self in
    let old = lists c.args.self.now in
    let new = lists c.written_after.new.self in
    let es = entries c.args.self.now in
    let before = c.written-before.result in
    let written = c.in-Ok-Some.written in
    let here = entry_there es at c.requires.exists in
    let e = here.0 in
    let is : from ≡ e.configuration = subst (λ o. IfSome o (λ x. from ≡ x.configuration)) here.1 c.requires.at in
    let step : transition p from label ≡ Some to = subst (λ (q : ProgramTree). transition q from label ≡ Some to) c.requires.same c.in-Ok.ensures.made in
    let reached : IsReachedWith p k e.items e.configuration = each_at (λ (x : Passed). IsReachedWith p k x.items x.configuration) es at e c.requires.reached here.1 in
    let more : IsReachedWith p k (e.items ++ k.keeps label) to =
    reached_more p k e.items e.configuration to label reached (subst (λ (d : Configuration). transition p d label ≡ Some to) is step)
    in
    let number : (get_or new written [] ≡ get_or old before [] ++ k.keeps label) × (written < length new) =
    subst (λ o. IfSome o (λ n. (get_or new n [] ≡ get_or old before [] ++ k.keeps label) × (n < length new))) c.in-Ok-Some.field-0-is c.in-Ok-Some.ensures.number
    in
    let kept : get_or new written [] ≡ e.items ++ k.keeps label = items_after es at e old new before written (k.keeps label) here.1 c.written-before.ensures.list number.0 in
    subst (λ (q : ProgramTree). IsReachedWith q k (get_or new written []) to) (sym c.written_after.ensures.program) (subst (λ (v : List Item). IsReachedWith p k v to) (sym kept) more)

pub returns-in-Ok-Some-settle_and_keep-clause-grows : goal.returns-in-Ok-Some-settle_and_keep-clause-grows
returns-in-Ok-Some-settle_and_keep-clause-grows c =
    let p = searched c.args.self.now in
    let k = course_of c.args.scope.keeps in
    let most = c.args.scope.most in
    let before = entries c.written_after.new.self in
    let after = entries c.settle_and_keep.new.self in
    let grows : Grows (searched c.written_after.new.self) k most before after =
    subst (λ o. IfSome o (λ _. Grows (searched c.written_after.new.self) k most before after)) c.in-Ok-Some-settle_and_keep.field-0-is c.in-Ok-Some-settle_and_keep.ensures.grows
    in
    λ _. subst (λ (es : Entries). Grows p k most es after) c.written_after.ensures.same (subst (λ (q : ProgramTree). Grows q k most before after) c.written_after.ensures.program grows)

pub returns-in-Ok-Some-settle_and_keep-clause-led : goal.returns-in-Ok-Some-settle_and_keep-clause-led
returns-in-Ok-Some-settle_and_keep-clause-led c = λ i told e there.
    let p = searched c.args.self.now in
    let k = course_of c.args.scope.keeps in
    let label = c.args.label.now in
    let from = configuration_of c.args.plain.now in
    let to = configuration_of c.apply.new.self in
    let place = c.in-Ok-Some-settle_and_keep.place in
    let is : place ≡ i = cc in
    let old = lists c.args.self.now in
    let new = lists c.written_after.new.self in
    let es = entries c.settle_and_keep.new.self in
    let before = c.written-before.result in
    let written = c.in-Ok-Some.written in
    let after = c.in-Some.after in
    let at : from ≡ e.configuration = subst (λ o. IfSome o (λ x. from ≡ x.configuration)) there c.requires.at in
    let name : c.next_name.result ≡ e.next = subst (λ o. IfSome o (λ x. c.next_name.result ≡ x.next)) there c.next_name.ensures in
    let step : transition p from label ≡ Some to = subst (λ (q : ProgramTree). transition q from label ≡ Some to) c.requires.same c.in-Ok.ensures.made in
    let number : (get_or new written [] ≡ get_or old before [] ++ k.keeps label) × (written < length new) =
    subst (λ o. IfSome o (λ n. (get_or new n [] ≡ get_or old before [] ++ k.keeps label) × (n < length new))) c.in-Ok-Some.field-0-is c.in-Ok-Some.ensures.number
    in
    let kept : get_or new written [] ≡ e.items ++ k.keeps label =
    items_after (entries c.args.self.now) c.args.origin.from e old new before written (k.keeps label) there c.written-before.ensures.list number.0
    in
    let settled : SettlesAt (searched c.written_after.new.self) k es after (get_or new written []) to place =
    subst (λ o. IfSome o (λ j. SettlesAt (searched c.written_after.new.self) k es after (get_or new written []) to j)) c.in-Ok-Some-settle_and_keep.field-0-is c.in-Ok-Some-settle_and_keep.ensures.leads
    in
    let settles : SettlesAt p k es after (get_or new written []) to place = subst (λ (q : ProgramTree). SettlesAt q k es after (get_or new written []) to place) c.written_after.ensures.program settled in
    let led : LeadsAt p k es e.next e.items e.configuration label place =
    led_at p k es e.next after e.items (get_or new written []) e.configuration to label place (subst (λ (d : Configuration). transition p d label ≡ Some to) at step) settles
    (c.in-Some.ensures ∙ ap (λ n. after_label n label) name) kept
    in
    subst (LeadsAt p k es e.next e.items e.configuration label) is led

pub returns-in-Err-NotPossible-clause-program : goal.returns-in-Err-NotPossible-clause-program
returns-in-Err-NotPossible-clause-program c = refl

pub returns-in-Err-NotPossible-clause-led : goal.returns-in-Err-NotPossible-clause-led
returns-in-Err-NotPossible-clause-led c = λ i told e there. absurd (tried_led _ refl told)

pub returns-in-Err-NotPossible-clause-grows : goal.returns-in-Err-NotPossible-clause-grows
returns-in-Err-NotPossible-clause-grows c = λ _. as_it_is (searched c.args.self.now) (course_of c.args.scope.keeps) c.args.scope.most (entries c.args.self.now)

pub returns-in-Err-Memory-clause-program : goal.returns-in-Err-Memory-clause-program
returns-in-Err-Memory-clause-program c = refl

pub returns-in-Err-Memory-clause-grows : goal.returns-in-Err-Memory-clause-grows
returns-in-Err-Memory-clause-grows c = tt

pub returns-in-Err-Memory-clause-impossible : goal.returns-in-Err-Memory-clause-impossible
returns-in-Err-Memory-clause-impossible c = λ told e there. absurd (failed_not _ refl told)

pub returns-in-Err-Memory-clause-led : goal.returns-in-Err-Memory-clause-led
returns-in-Err-Memory-clause-led c = λ i told e there. absurd (failed_not _ refl told)

pub returns-in_default-clause-program : goal.returns-in_default-clause-program
returns-in_default-clause-program c = refl

pub returns-in_default-clause-grows : goal.returns-in_default-clause-grows
returns-in_default-clause-grows c = λ tried. absurd (untrue tried)

pub returns-in_default-clause-impossible : goal.returns-in_default-clause-impossible
returns-in_default-clause-impossible c = λ told e there. absurd (over_tried _ refl told)

pub returns-in_default-clause-led : goal.returns-in_default-clause-led
returns-in_default-clause-led c = λ i told e there. absurd (over_led _ refl told)

pub returns-in-Ok-None-clause-program : goal.returns-in-Ok-None-clause-program
returns-in-Ok-None-clause-program c = c.written_after.ensures.program

pub returns-in-Ok-None-clause-grows : goal.returns-in-Ok-None-clause-grows
returns-in-Ok-None-clause-grows c = λ tried. absurd (untrue tried)

pub returns-in-Ok-None-clause-impossible : goal.returns-in-Ok-None-clause-impossible
returns-in-Ok-None-clause-impossible c = λ told e there. absurd (over_tried _ refl told)

pub returns-in-Ok-None-clause-led : goal.returns-in-Ok-None-clause-led
returns-in-Ok-None-clause-led c = λ i told e there. absurd (over_led _ refl told)

pub returns-in-Err-clause-program : goal.returns-in-Err-clause-program
returns-in-Err-clause-program c = c.written_after.ensures.program

pub returns-in-Err-clause-grows : goal.returns-in-Err-clause-grows
returns-in-Err-clause-grows c = tt

pub returns-in-Err-clause-impossible : goal.returns-in-Err-clause-impossible
returns-in-Err-clause-impossible c = λ told e there. absurd (failed_not _ refl told)

pub returns-in-Err-clause-led : goal.returns-in-Err-clause-led
returns-in-Err-clause-led c = λ i told e there. absurd (failed_not _ refl told)

pub returns-in-Ok-None-settle_and_keep-clause-program : goal.returns-in-Ok-None-settle_and_keep-clause-program
returns-in-Ok-None-settle_and_keep-clause-program c = c.settle_and_keep.ensures.program ∙ c.written_after.ensures.program

pub returns-in-Ok-None-settle_and_keep-clause-grows : goal.returns-in-Ok-None-settle_and_keep-clause-grows
returns-in-Ok-None-settle_and_keep-clause-grows c = λ tried. absurd (untrue tried)

pub returns-in-Ok-None-settle_and_keep-clause-impossible : goal.returns-in-Ok-None-settle_and_keep-clause-impossible
returns-in-Ok-None-settle_and_keep-clause-impossible c = λ told e there. absurd (over_tried _ refl told)

pub returns-in-Ok-None-settle_and_keep-clause-led : goal.returns-in-Ok-None-settle_and_keep-clause-led
returns-in-Ok-None-settle_and_keep-clause-led c = λ i told e there. absurd (over_led _ refl told)

pub returns-in-Err-settle_and_keep-clause-program : goal.returns-in-Err-settle_and_keep-clause-program
returns-in-Err-settle_and_keep-clause-program c = c.settle_and_keep.ensures.program ∙ c.written_after.ensures.program

pub returns-in-Err-settle_and_keep-clause-grows : goal.returns-in-Err-settle_and_keep-clause-grows
returns-in-Err-settle_and_keep-clause-grows c = tt

pub returns-in-Err-settle_and_keep-clause-impossible : goal.returns-in-Err-settle_and_keep-clause-impossible
returns-in-Err-settle_and_keep-clause-impossible c = λ told e there. absurd (failed_not _ refl told)

pub returns-in-Err-settle_and_keep-clause-led : goal.returns-in-Err-settle_and_keep-clause-led
returns-in-Err-settle_and_keep-clause-led c = λ i told e there. absurd (failed_not _ refl told)

pub returns-in-Ok-Some-settle_and_keep-clause-program : goal.returns-in-Ok-Some-settle_and_keep-clause-program
returns-in-Ok-Some-settle_and_keep-clause-program c = c.settle_and_keep.ensures.program ∙ c.written_after.ensures.program

pub returns-in-Ok-Some-settle_and_keep-clause-impossible : goal.returns-in-Ok-Some-settle_and_keep-clause-impossible
returns-in-Ok-Some-settle_and_keep-clause-impossible c = λ told e there. absurd (led_tried _ refl told)
