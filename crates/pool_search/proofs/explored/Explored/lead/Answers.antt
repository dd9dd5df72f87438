use Rattle.std.proofs.Common.{◌≡◌, ◌∙◌, subst, Some, None, slice_get}
use Rattle.std.specs.Prelude.{IfSome}
use Rattle.pool_syntax.specs.Terms.{ProgramTree}
use Rattle.pool_relation.specs.Configuration.{Configuration}
use Rattle.pool_relation.specs.Transition.{transition}
use Rattle.std.proofs.lemmas.Result.{IfOk-weaker}
use Rattle.run_types.specs.declared.types.Label.{Label}
use Rattle.search_laws.specs.Outcomes.{Passed}
use Rattle.pool_semantics.specs.PlainOf.{configuration_of, program_tree}
use Rattle.pool_search.specs.declared.going_on.Lead.{Lead}
use Rattle.pool_search.specs.Entries.{entries, searched}
use Rattle.pool_search.specs.Leads.{IsLead}
use Rattle.pool_search.specs.Steps.{HasMade}
use Rattle.pool_search.proofs.StepperRuns.{made_step}
use Rattle.pool_search.proofs.explored.Explored.lead.Goals as goal

pub settle_and_find-requires-clause-fresh : goal.settle_and_find-requires-clause-fresh
settle_and_find-requires-clause-fresh c = (subst (HasMade c.in_ok-plain.plain c.make.new.plain c.args.label.now) c.in-Ok-true.field-0-test c.in-Ok-true.ensures).fresh

pub settle_and_find-requires-clause-program : goal.settle_and_find-requires-clause-program
settle_and_find-requires-clause-program c = (subst (HasMade c.in_ok-plain.plain c.make.new.plain c.args.label.now) c.in-Ok-true.field-0-test c.in-Ok-true.ensures).program ∙ c.in_ok-plain.ensures.program

-- the transition from the entry
stepped : (p q : ProgramTree) (c d e : Configuration) (l : Label) → q ≡ p → c ≡ e → transition q c l ≡ Some d → transition p e l ≡ Some d
stepped p q c d e l i j h = subst (λ (x : Configuration). transition p x l ≡ Some d) j (subst (λ (r : ProgramTree). transition r c l ≡ Some d) i h)

pub returns-in-Ok-true-clause-led : goal.returns-in-Ok-true-clause-led
returns-in-Ok-true-clause-led c =
    let p = searched c.args.self.now in
    let es = entries c.args.self.now in
    let l = c.args.label.now in
    let a = c.in_ok-plain.plain in
    let b = c.make.new.plain in
    let made = c.settle_and_find.new.made in
    let step = made_step a b l (subst (HasMade a b l) c.in-Ok-true.field-0-test c.in-Ok-true.ensures) in
    IfOk-weaker c.settle_and_find.result
    (λ (r : Lead). (e : Passed) → slice_get es c.args.at ≡ Some e → transition p e.configuration l ≡ Some (configuration_of b) → IsLead p es e l made r)
    (λ (r : Lead). (e : Passed) → slice_get es c.args.at ≡ Some e → IsLead p es e l made r)
    (λ r h e g.
    let same : configuration_of a ≡ e.configuration = subst (λ o. IfSome o (λ x. configuration_of a ≡ x.configuration)) g c.in_ok-plain.ensures.configuration in
    h e g (stepped p (program_tree a) (configuration_of a) (configuration_of b) e.configuration l c.in_ok-plain.ensures.program same step))
    c.settle_and_find.ensures.led

pub returns-in-Ok-false-clause-led : goal.returns-in-Ok-false-clause-led
returns-in-Ok-false-clause-led c = λ e g.
    let p = searched c.args.self.now in
    let l = c.args.label.now in
    let a = c.in_ok-plain.plain in
    let none = (subst (HasMade a c.make.new.plain l) c.in-Ok-false.field-0-test c.in-Ok-false.ensures).1 in
    let same : configuration_of a ≡ e.configuration = subst (λ o. IfSome o (λ x. configuration_of a ≡ x.configuration)) g c.in_ok-plain.ensures.configuration in
    subst (λ (x : Configuration). transition p x l ≡ None) same (subst (λ (r : ProgramTree). transition r (configuration_of a) l ≡ None) c.in_ok-plain.ensures.program none)
