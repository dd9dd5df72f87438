use Rattle.std.proofs.Common.{◌≡◌, ◌⊎◌, ◌<◌, inl, inr, [], ◌∷◌, ◌++◌, refl, subst, sym, ap, ◌∙◌, Some, Ok, Bool, true, false, not, length, slice_get, take, arith}
use Rattle.std.proofs.lemmas.List.{take_more}
use Rattle.std.proofs.lemmas.Option.{slice_get-get_or}
use Rattle.std.specs.List.{filter}
use Rattle.pool_syntax.specs.Terms.{ProgramTree}
use Rattle.search_laws.specs.Outcomes.{Passed}
use Rattle.search_laws.specs.Tried.{AllLeadInto, IsLabelTried}
use Rattle.pool_search.specs.declared.choices.Trial.TheVariants as T
use Rattle.visited_set.specs.Courses.{course_of}
use Rattle.pool_search.specs.Entries.{entries, searched}
use Rattle.pool_search.specs.Progress.{AllReached, Grows}
use Rattle.pool_search.specs.Trials.{is_asked, is_tried, OneLeadsOn}
use Rattle.pool_search.proofs.ListGrowth.{and_then}
use Rattle.pool_search.proofs.EntryExpansion.{one_more_asked, still_leads_on, still_there, still_within, tried_before, tried_still}
use Rattle.pool_search.proofs.explored.Explored.try_labels.Goals as goal

not_over : (b : Bool) → not b ≡ false → b ≡ true
not_over true h = refl
not_over false h = absurd (let z : true ≡ false = h in cc)

either : {A B C : Type 0} → (A → C) → (B → C) → A ⊎ B → C
either f g (inl a) = f a
either f g (inr b) = g b

pub try_label-requires-clause-exists : goal.try_label-requires-clause-exists
try_label-requires-clause-exists c =
    let l = c.loop-place in
    still_within (searched c.args.self.now) (course_of c.args.scope.keeps) c.args.scope.most (entries c.args.self.now) (entries l.self) c.args.at l.invariant.grows c.requires.exists

pub try_label-requires-clause-reached : goal.try_label-requires-clause-reached
try_label-requires-clause-reached c =
    let l = c.loop-place in
    subst (λ (p : ProgramTree). AllReached p (course_of c.args.scope.keeps) (entries l.self)) (sym l.invariant.program) (l.invariant.grows.reached c.requires.reached)

pub loop-place-preserved : goal.loop-place-preserved
loop-place-preserved c =
    let l = c.loop-place in
    let p = searched c.args.self.now in
    let k = course_of c.args.scope.keeps in
    let most = c.args.scope.most in
    let asked = is_asked c.args.served in
    let labels = c.args.labels.now in
    let label = c.index-labels-place.result in
    let tried : is_tried c.in-Ok.made ≡ true = not_over (is_tried c.in-Ok.made) (sym c.is_over.ensures ∙ c.if-is_over.false) in
    let inside : l.place < length labels = omega (arith, c.loop-place-test.true, l.auto.place-end) in
    let start = entries c.args.self.now in
    let before = entries l.self in
    let after = entries c.try_label.new.self in
    let there : (e : Passed) → slice_get start c.args.at ≡ Some e → slice_get before c.args.at ≡ Some e =
    (λ e g. still_there p k most start before c.args.at e l.invariant.grows g)
    in
    let grows : Grows p k most before after = subst (λ (q : ProgramTree). Grows q k most before after) l.invariant.program (c.in-Ok.ensures.grows tried) in
    let one : (e : Passed) → slice_get start c.args.at ≡ Some e → asked label ≡ true → IsLabelTried p k after e.next e.items e.configuration label =
    (λ e g h. subst (λ (q : ProgramTree). IsLabelTried q k after e.next e.items e.configuration label) l.invariant.program (c.in-Ok.ensures.tried tried h e (there e g)))
    in
    record {
      program = c.try_label.ensures.program ∙ l.invariant.program;
      in_bounds = tried;
      led = λ i told e g.
          either (λ h. still_leads_on p k most before after c.args.at e c.args.served i grows (l.invariant.led i h e g)) (λ h. h e (there e g))
          (subst (λ (q : ProgramTree). (l.trial ≡ T.Led i) ⊎ ((f : Passed) → slice_get before c.args.at ≡ Some f → OneLeadsOn q k after c.args.at f c.args.served i)) l.invariant.program
          (c.in-Ok.ensures.led i (ap Ok told)));
      grows = and_then p k most start before after l.invariant.grows grows;
      tried = λ e g.
          subst (λ ls. AllLeadInto p k after e.next e.items e.configuration (filter asked ls))
          (sym (take_more labels l.place label inside ∙ ap (λ x. take l.place labels ++ x ∷ []) (sym c.index-labels-place.is)))
          (one_more_asked p k after e asked (take l.place labels) label (one e g) (tried_still p k most before after e (filter asked (take l.place labels)) grows (l.invariant.tried e g)));
    }

pub loop-place-preserved-then-is_again : goal.loop-place-preserved-then-is_again
loop-place-preserved-then-is_again c =
    let l = c.loop-place in
    let p = searched c.args.self.now in
    let k = course_of c.args.scope.keeps in
    let asked = is_asked c.args.served in
    let labels = c.args.labels.now in
    let label = c.index-labels-place.result in
    let es = entries l.self in
    let again = c.is_again.ensures c.if-is_again.true in
    let inside : l.place < length labels = omega (arith, c.loop-place-test.true, l.auto.place-end) in
    let there : slice_get labels again.0 ≡ Some label = again.2 ∙ slice_get-get_or labels l.place label inside ∙ ap Some (sym c.index-labels-place.is) in
    record {
      program = l.invariant.program;
      in_bounds = l.invariant.in_bounds;
      led = l.invariant.led;
      grows = l.invariant.grows;
      tried = λ e g.
          let so_far = l.invariant.tried e g in
          let before = subst (λ n. AllLeadInto p k es e.next e.items e.configuration (filter asked (take n labels))) (sym again.1) so_far in
          subst (λ ls. AllLeadInto p k es e.next e.items e.configuration (filter asked ls))
          (sym (take_more labels l.place label inside ∙ ap (λ x. take l.place labels ++ x ∷ []) (sym c.index-labels-place.is)))
          (one_more_asked p k es e asked (take l.place labels) label (tried_before p k es e asked labels again.0 label there before) so_far);
    }

pub returns-clause-led : goal.returns-clause-led
returns-clause-led c = λ i told e g.
    let is : c.loop-place.trial ≡ T.Led i = cc in
    c.loop-place.invariant.led i is e g
