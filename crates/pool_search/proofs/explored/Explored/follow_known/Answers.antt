use Rattle.std.proofs.Common.{◌≡◌, ◌<◌, ◌++◌, ◌∷◌, [], Some, get_or, subst, sym, ap, ◌∙◌, length, slice_get, arith, refl, Ok, None, ℕ, true, false}
use Rattle.std.specs.Prelude.{IfSome, Result, Option}
use Rattle.pool_syntax.specs.Terms.{ProgramTree}
use Rattle.pool_relation.specs.Configuration.{Configuration}
use Rattle.reachability.specs.Search.{after as after_label, IsInOrder}
use Rattle.search_laws.specs.Tried.{LeadsAt}
use Rattle.visited_set.specs.Courses.{course_of}
use Rattle.pool_search.specs.Entries.{entries, lists, searched}
use Rattle.visited_set.specs.VisitedConfigurations.{entry, kept_list}
use Rattle.pool_search.specs.Progress.{Entries, Grows}
use Rattle.visited_set.specs.LedBy.{IsLedBy}
use Rattle.pool_search.proofs.ListGrowth.{as_it_is, entry_last}
use Rattle.pool_search.proofs.RunExtension.{keeps_nothing}
use Rattle.pool_search.proofs.EntryExpansion.{entry_there, grown_known, items_after, led_known}
use Rattle.std.proofs.lemmas.Result.{err_from_is_err_and}
use Rattle.pool_search.specs.declared.choices.Trial.{Trial}
use Rattle.pool_search.specs.declared.choices.Trial.TheVariants as T
use Rattle.visited_set.proofs.Laws.{not_ok}
use Rattle.pool_search.proofs.explored.Explored.follow_known.Goals as goal

pub returns-in-Ok-At-Seen-clause-grows : goal.returns-in-Ok-At-Seen-clause-grows
returns-in-Ok-At-Seen-clause-grows c = λ tried.
    let before = entries c.args.self.now in
    let seen = c.in-Ok-At-Seen.ensures.seen c.in-Ok-At-Seen.number (cc) in
    let p = searched c.args.self.now in
    let k = course_of c.args.scope.keeps in
    subst (Grows p k c.args.scope.most before) (sym (seen.0 ∙ c.written_after.ensures.same)) (as_it_is p k c.args.scope.most before)

pub returns-in-Ok-At-Seen-clause-led : goal.returns-in-Ok-At-Seen-clause-led
returns-in-Ok-At-Seen-clause-led c = λ i told e there.
    let p = searched c.args.self.now in
    let q = searched c.written_after.new.self in
    let k = course_of c.args.scope.keeps in
    let label = c.args.label.now in
    let number = c.in-Ok-At-Seen.number in
    let is : number ≡ i = cc in
    let at = c.args.origin.from in
    let old = lists c.args.self.now in
    let new = lists c.written_after.new.self in
    let before = c.written-before.result in
    let written = c.in-Some-2.written in
    let es = entries c.args.self.now in
    let fs = entries c.written_after.new.self in
    let v = get_or new written [] in
    let moved = c.lead.new.moved.items in
    let seen = c.in-Ok-At-Seen.ensures.seen number (cc) in
    let still : slice_get fs at ≡ Some e = ap (λ (xs : Entries). slice_get xs at) c.written_after.ensures.same ∙ there in
    let led : (to : Configuration) × IsLedBy q k e.configuration label to moved × (slice_get fs number ≡ Some (entry c.in-Some.after v to)) =
    subst (λ o. IfSome o (λ x. (to : Configuration) × IsLedBy q k x.configuration label to moved × (slice_get fs number ≡ Some (entry c.in-Some.after v to)))) still seen.1
    in
    let step : IsLedBy p k e.configuration label led.0 moved = subst (λ (r : ProgramTree). IsLedBy r k e.configuration label led.0 moved) c.written_after.ensures.program led.1 in
    let number_is : (v ≡ get_or old before [] ++ k.keeps label) × (written < length new) =
    subst (λ o. IfSome o (λ n. (get_or new n [] ≡ get_or old before [] ++ k.keeps label) × (n < length new))) c.in-Some-2.is c.in_ok-written.ensures.number
    in
    let kept : v ≡ e.items ++ k.keeps label = items_after es at e old new before written (k.keeps label) there c.written-before.ensures.list number_is.0 in
    let name : c.next_name.result ≡ e.next = subst (λ o. IfSome o (λ x. c.next_name.result ≡ x.next)) there c.next_name.ensures in
    let all : LeadsAt p k fs e.next e.items e.configuration label number =
    led_known p k fs c.in-Some.after v e label number led.0 moved step led.2 (c.in-Some.ensures ∙ ap (λ n. after_label n label) name) kept
    in
    subst (λ (xs : Entries). LeadsAt p k xs e.next e.items e.configuration label i) (sym seen.0) (subst (LeadsAt p k fs e.next e.items e.configuration label) is all)

pub returns-in-Ok-At-Added-clause-grows : goal.returns-in-Ok-At-Added-clause-grows
returns-in-Ok-At-Added-clause-grows c = λ tried.
    let p = searched c.args.self.now in
    let q = searched c.written_after.new.self in
    let k = course_of c.args.scope.keeps in
    let label = c.args.label.now in
    let number = c.in-Ok-At-Added.number in
    let at = c.args.origin.from in
    let old = lists c.args.self.now in
    let new = lists c.written_after.new.self in
    let before = c.written-before.result in
    let written = c.in-Some-2.written in
    let es = entries c.args.self.now in
    let fs = entries c.written_after.new.self in
    let gs = kept_list c.lead.new.self in
    let v = get_or new written [] in
    let moved = c.lead.new.moved.items in
    let here = entry_there es at c.requires.exists in
    let e = here.0 in
    let there = here.1 in
    let added = c.in-Ok-At-Added.ensures.added number (cc) in
    let still : slice_get fs at ≡ Some e = ap (λ (xs : Entries). slice_get xs at) c.written_after.ensures.same ∙ there in
    let led : (to : Configuration) × IsLedBy q k e.configuration label to moved × IsInOrder to × (gs ≡ fs ++ entry c.in-Some.after v to ∷ []) × (number ≡ length fs) =
    subst (λ o. IfSome o (λ x. (to : Configuration) × IsLedBy q k x.configuration label to moved × IsInOrder to × (gs ≡ fs ++ entry c.in-Some.after v to ∷ []) × (number ≡ length fs))) still added
    in
    let step : IsLedBy p k e.configuration label led.0 moved = subst (λ (r : ProgramTree). IsLedBy r k e.configuration label led.0 moved) c.written_after.ensures.program led.1 in
    let number_is : (v ≡ get_or old before [] ++ k.keeps label) × (written < length new) =
    subst (λ o. IfSome o (λ n. (get_or new n [] ≡ get_or old before [] ++ k.keeps label) × (n < length new))) c.in-Some-2.is c.in_ok-written.ensures.number
    in
    let kept : v ≡ e.items ++ k.keeps label = items_after es at e old new before written (k.keeps label) there c.written-before.ensures.list number_is.0 in
    let grown : gs ≡ es ++ entry c.in-Some.after v led.0 ∷ [] = led.3 ∙ ap (λ (xs : Entries). xs ++ entry c.in-Some.after v led.0 ∷ []) c.written_after.ensures.same in
    let few : length es < c.args.scope.most = omega (arith, led.4, ap (λ (xs : Entries). length xs) c.written_after.ensures.same) in
    grown_known p k (keeps_nothing c.args.scope.keeps) c.args.scope.most es gs at c.in-Some.after v e label led.0 moved c.requires.reached there step led.2 kept grown few

pub returns-in-Ok-At-Added-clause-led : goal.returns-in-Ok-At-Added-clause-led
returns-in-Ok-At-Added-clause-led c = λ i told e there.
    let p = searched c.args.self.now in
    let q = searched c.written_after.new.self in
    let k = course_of c.args.scope.keeps in
    let label = c.args.label.now in
    let number = c.in-Ok-At-Added.number in
    let is : number ≡ i = cc in
    let at = c.args.origin.from in
    let old = lists c.args.self.now in
    let new = lists c.written_after.new.self in
    let before = c.written-before.result in
    let written = c.in-Some-2.written in
    let es = entries c.args.self.now in
    let fs = entries c.written_after.new.self in
    let gs = kept_list c.lead.new.self in
    let v = get_or new written [] in
    let moved = c.lead.new.moved.items in
    let added = c.in-Ok-At-Added.ensures.added number (cc) in
    let still : slice_get fs at ≡ Some e = ap (λ (xs : Entries). slice_get xs at) c.written_after.ensures.same ∙ there in
    let led : (to : Configuration) × IsLedBy q k e.configuration label to moved × IsInOrder to × (gs ≡ fs ++ entry c.in-Some.after v to ∷ []) × (number ≡ length fs) =
    subst (λ o. IfSome o (λ x. (to : Configuration) × IsLedBy q k x.configuration label to moved × IsInOrder to × (gs ≡ fs ++ entry c.in-Some.after v to ∷ []) × (number ≡ length fs))) still added
    in
    let step : IsLedBy p k e.configuration label led.0 moved = subst (λ (r : ProgramTree). IsLedBy r k e.configuration label led.0 moved) c.written_after.ensures.program led.1 in
    let number_is : (v ≡ get_or old before [] ++ k.keeps label) × (written < length new) =
    subst (λ o. IfSome o (λ n. (get_or new n [] ≡ get_or old before [] ++ k.keeps label) × (n < length new))) c.in-Some-2.is c.in_ok-written.ensures.number
    in
    let kept : v ≡ e.items ++ k.keeps label = items_after es at e old new before written (k.keeps label) there c.written-before.ensures.list number_is.0 in
    let name : c.next_name.result ≡ e.next = subst (λ o. IfSome o (λ x. c.next_name.result ≡ x.next)) there c.next_name.ensures in
    let last : slice_get gs number ≡ Some (entry c.in-Some.after v led.0) =
    ap (λ (xs : Entries). slice_get xs number) led.3 ∙ entry_last fs number (entry c.in-Some.after v led.0) led.4 in
    subst (LeadsAt p k gs e.next e.items e.configuration label) is
    (led_known p k gs c.in-Some.after v e label number led.0 moved step last (c.in-Some.ensures ∙ ap (λ n. after_label n label) name) kept)

untrue : false ≡ true → ⊥
untrue h = cc

none_some : {T E : Type 0} {x : T} (r : Result (Option T) E) → r ≡ Ok None → r ≡ Ok (Some x) → ⊥
none_some r p q = cc

some_none : {T E : Type 0} {x : T} (r : Result (Option T) E) → r ≡ Ok (Some x) → r ≡ Ok None → ⊥
some_none r p q = cc

tried_led : {E : Type 0} {i : ℕ} (r : Result (Option Trial) E) → r ≡ Ok (Some T.Tried) → r ≡ Ok (Some (T.Led i)) → ⊥
tried_led r p q = cc

led_tried : {E : Type 0} {i : ℕ} (r : Result (Option Trial) E) → r ≡ Ok (Some (T.Led i)) → r ≡ Ok (Some T.Tried) → ⊥
led_tried r p q = cc

over_tried : {E : Type 0} (r : Result (Option Trial) E) → r ≡ Ok (Some T.Over) → r ≡ Ok (Some T.Tried) → ⊥
over_tried r p q = cc

over_led : {E : Type 0} {i : ℕ} (r : Result (Option Trial) E) → r ≡ Ok (Some T.Over) → r ≡ Ok (Some (T.Led i)) → ⊥
over_led r p q = cc

pub returns-in_default-clause-program : goal.returns-in_default-clause-program
returns-in_default-clause-program c = refl

pub returns-in_default-clause-same : goal.returns-in_default-clause-same
returns-in_default-clause-same c = λ told. refl

pub returns-in_default-clause-grows : goal.returns-in_default-clause-grows
returns-in_default-clause-grows c = tt

pub returns-in_default-clause-impossible : goal.returns-in_default-clause-impossible
returns-in_default-clause-impossible c = λ told e there. absurd (none_some _ refl told)

pub returns-in_default-clause-led : goal.returns-in_default-clause-led
returns-in_default-clause-led c = λ i told e there. absurd (none_some _ refl told)

pub returns-in_default-2-clause-program : goal.returns-in_default-2-clause-program
returns-in_default-2-clause-program c = c.written_after.ensures.program

pub returns-in_default-2-clause-same : goal.returns-in_default-2-clause-same
returns-in_default-2-clause-same c = λ told. c.written_after.ensures.same

pub returns-in_default-2-clause-grows : goal.returns-in_default-2-clause-grows
returns-in_default-2-clause-grows c = tt

pub returns-in_default-2-clause-impossible : goal.returns-in_default-2-clause-impossible
returns-in_default-2-clause-impossible c = λ told e there. absurd (none_some _ refl told)

pub returns-in_default-2-clause-led : goal.returns-in_default-2-clause-led
returns-in_default-2-clause-led c = λ i told e there. absurd (none_some _ refl told)

pub returns-in-Ok-Unknown-clause-program : goal.returns-in-Ok-Unknown-clause-program
returns-in-Ok-Unknown-clause-program c = c.lead.ensures.program ∙ c.written_after.ensures.program

pub returns-in-Ok-Unknown-clause-same : goal.returns-in-Ok-Unknown-clause-same
returns-in-Ok-Unknown-clause-same c = λ told. c.in-Ok-Unknown.ensures.unknown (ap Ok c.in-Ok-Unknown.field-0-is) ∙ c.written_after.ensures.same

pub returns-in-Ok-Unknown-clause-grows : goal.returns-in-Ok-Unknown-clause-grows
returns-in-Ok-Unknown-clause-grows c = tt

pub returns-in-Ok-Unknown-clause-impossible : goal.returns-in-Ok-Unknown-clause-impossible
returns-in-Ok-Unknown-clause-impossible c = λ told e there. absurd (none_some _ refl told)

pub returns-in-Ok-Unknown-clause-led : goal.returns-in-Ok-Unknown-clause-led
returns-in-Ok-Unknown-clause-led c = λ i told e there. absurd (none_some _ refl told)

pub returns-in-Ok-Absent-clause-program : goal.returns-in-Ok-Absent-clause-program
returns-in-Ok-Absent-clause-program c = c.lead.ensures.program ∙ c.written_after.ensures.program

pub returns-in-Ok-Absent-clause-same : goal.returns-in-Ok-Absent-clause-same
returns-in-Ok-Absent-clause-same c = λ told. c.in-Ok-Absent.ensures.absent (ap Ok c.in-Ok-Absent.field-0-is) ∙ c.written_after.ensures.same

pub returns-in-Ok-Absent-clause-grows : goal.returns-in-Ok-Absent-clause-grows
returns-in-Ok-Absent-clause-grows c = tt

pub returns-in-Ok-Absent-clause-impossible : goal.returns-in-Ok-Absent-clause-impossible
returns-in-Ok-Absent-clause-impossible c = λ told e there. absurd (none_some _ refl told)

pub returns-in-Ok-Absent-clause-led : goal.returns-in-Ok-Absent-clause-led
returns-in-Ok-Absent-clause-led c = λ i told e there. absurd (none_some _ refl told)

pub returns-in-Ok-Impossible-clause-program : goal.returns-in-Ok-Impossible-clause-program
returns-in-Ok-Impossible-clause-program c = c.lead.ensures.program ∙ c.written_after.ensures.program

pub returns-in-Ok-Impossible-clause-same : goal.returns-in-Ok-Impossible-clause-same
returns-in-Ok-Impossible-clause-same c = λ told. absurd (some_none _ refl told)

pub returns-in-Ok-Impossible-clause-led : goal.returns-in-Ok-Impossible-clause-led
returns-in-Ok-Impossible-clause-led c = λ i told e there. absurd (tried_led _ refl told)

pub returns-in-Ok-At-Seen-clause-program : goal.returns-in-Ok-At-Seen-clause-program
returns-in-Ok-At-Seen-clause-program c = c.lead.ensures.program ∙ c.written_after.ensures.program

pub returns-in-Ok-At-Seen-clause-same : goal.returns-in-Ok-At-Seen-clause-same
returns-in-Ok-At-Seen-clause-same c = λ told. absurd (some_none _ refl told)

pub returns-in-Ok-At-Seen-clause-impossible : goal.returns-in-Ok-At-Seen-clause-impossible
returns-in-Ok-At-Seen-clause-impossible c = λ told e there. absurd (led_tried _ refl told)

pub returns-then-number-scope-clause-program : goal.returns-then-number-scope-clause-program
returns-then-number-scope-clause-program c = c.lead.ensures.program ∙ c.written_after.ensures.program

pub returns-then-number-scope-clause-same : goal.returns-then-number-scope-clause-same
returns-then-number-scope-clause-same c = λ told. absurd (some_none _ refl told)

pub returns-then-number-scope-clause-impossible : goal.returns-then-number-scope-clause-impossible
returns-then-number-scope-clause-impossible c = λ told e there. absurd (over_tried _ refl told)

pub returns-then-number-scope-clause-grows : goal.returns-then-number-scope-clause-grows
returns-then-number-scope-clause-grows c = λ tried. absurd (untrue tried)

pub returns-then-number-scope-clause-led : goal.returns-then-number-scope-clause-led
returns-then-number-scope-clause-led c = λ i told e there. absurd (over_led _ refl told)

pub returns-in-Ok-At-Added-clause-program : goal.returns-in-Ok-At-Added-clause-program
returns-in-Ok-At-Added-clause-program c = c.lead.ensures.program ∙ c.written_after.ensures.program

pub returns-in-Ok-At-Added-clause-same : goal.returns-in-Ok-At-Added-clause-same
returns-in-Ok-At-Added-clause-same c = λ told. absurd (some_none _ refl told)

pub returns-in-Ok-At-Added-clause-impossible : goal.returns-in-Ok-At-Added-clause-impossible
returns-in-Ok-At-Added-clause-impossible c = λ told e there. absurd (led_tried _ refl told)

pub returns-in_err-written-clause-program : goal.returns-in_err-written-clause-program
returns-in_err-written-clause-program c = c.written_after.ensures.program

pub returns-in_err-written-clause-same : goal.returns-in_err-written-clause-same
returns-in_err-written-clause-same c = λ told. absurd (not_ok c.from_residual.result (err_from_is_err_and c.from_residual.result c.from_residual.ensures.1).0 None (err_from_is_err_and c.from_residual.result c.from_residual.ensures.1).1 told)

pub returns-in_err-written-clause-grows : goal.returns-in_err-written-clause-grows
returns-in_err-written-clause-grows c = rw ((err_from_is_err_and c.from_residual.result c.from_residual.ensures.1).1) tt

pub returns-in_err-written-clause-impossible : goal.returns-in_err-written-clause-impossible
returns-in_err-written-clause-impossible c = λ told e there. absurd (not_ok c.from_residual.result (err_from_is_err_and c.from_residual.result c.from_residual.ensures.1).0 (Some T.Tried) (err_from_is_err_and c.from_residual.result c.from_residual.ensures.1).1 told)

pub returns-in_err-written-clause-led : goal.returns-in_err-written-clause-led
returns-in_err-written-clause-led c = λ i told e there. absurd (not_ok c.from_residual.result (err_from_is_err_and c.from_residual.result c.from_residual.ensures.1).0 (Some (T.Led i)) (err_from_is_err_and c.from_residual.result c.from_residual.ensures.1).1 told)

pub returns-in_err-push-in-Ok-At-Added-clause-program : goal.returns-in_err-push-in-Ok-At-Added-clause-program
returns-in_err-push-in-Ok-At-Added-clause-program c = c.lead.ensures.program ∙ c.written_after.ensures.program

pub returns-in_err-push-in-Ok-At-Added-clause-same : goal.returns-in_err-push-in-Ok-At-Added-clause-same
returns-in_err-push-in-Ok-At-Added-clause-same c = λ told. absurd (not_ok c.from_residual-in_err-push-in-Ok-At-Added.result (err_from_is_err_and c.from_residual-in_err-push-in-Ok-At-Added.result c.from_residual-in_err-push-in-Ok-At-Added.ensures.1).0 None (err_from_is_err_and c.from_residual-in_err-push-in-Ok-At-Added.result c.from_residual-in_err-push-in-Ok-At-Added.ensures.1).1 told)

pub returns-in_err-push-in-Ok-At-Added-clause-grows : goal.returns-in_err-push-in-Ok-At-Added-clause-grows
returns-in_err-push-in-Ok-At-Added-clause-grows c = rw ((err_from_is_err_and c.from_residual-in_err-push-in-Ok-At-Added.result c.from_residual-in_err-push-in-Ok-At-Added.ensures.1).1) tt

pub returns-in_err-push-in-Ok-At-Added-clause-impossible : goal.returns-in_err-push-in-Ok-At-Added-clause-impossible
returns-in_err-push-in-Ok-At-Added-clause-impossible c = λ told e there. absurd (not_ok c.from_residual-in_err-push-in-Ok-At-Added.result (err_from_is_err_and c.from_residual-in_err-push-in-Ok-At-Added.result c.from_residual-in_err-push-in-Ok-At-Added.ensures.1).0 (Some T.Tried) (err_from_is_err_and c.from_residual-in_err-push-in-Ok-At-Added.result c.from_residual-in_err-push-in-Ok-At-Added.ensures.1).1 told)

pub returns-in_err-push-in-Ok-At-Added-clause-led : goal.returns-in_err-push-in-Ok-At-Added-clause-led
returns-in_err-push-in-Ok-At-Added-clause-led c = λ i told e there. absurd (not_ok c.from_residual-in_err-push-in-Ok-At-Added.result (err_from_is_err_and c.from_residual-in_err-push-in-Ok-At-Added.result c.from_residual-in_err-push-in-Ok-At-Added.ensures.1).0 (Some (T.Led i)) (err_from_is_err_and c.from_residual-in_err-push-in-Ok-At-Added.result c.from_residual-in_err-push-in-Ok-At-Added.ensures.1).1 told)

pub returns-clause-program : goal.returns-clause-program
returns-clause-program c = c.lead.ensures.program ∙ c.written_after.ensures.program

pub returns-clause-grows : goal.returns-clause-grows
returns-clause-grows c = tt
