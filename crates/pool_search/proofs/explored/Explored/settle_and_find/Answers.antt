use Rattle.std.proofs.Common.{◌≡◌, ◌++◌, ◌∷◌, ◌∙◌, [], List, ap, subst, Ok}
use Rattle.std.specs.Prelude.{IfSome}
use Rattle.run_types.specs.declared.types.Label.{Label}
use Rattle.pool_semantics.specs.PlainOf.{configuration_of}
use Rattle.reachability.specs.Search.{after as after_label}
use Rattle.search_laws.specs.Tried.{states_only}
use Rattle.pool_search.specs.Entries.{IsEntryAt, entries, searched}
use Rattle.pool_search.specs.Steps.{HasSettled}
use Rattle.pool_search.proofs.StepperRuns.{edge_there}
use Rattle.pool_search.proofs.explored.Explored.settle_and_find.Goals as goal

pub find-requires-clause-fresh : goal.find-requires-clause-fresh
find-requires-clause-fresh c = (c.in-Ok-true.ensures (ap Ok c.in-Ok-true.field-0-test)).ran.fresh

pub find-requires-clause-program : goal.find-requires-clause-program
find-requires-clause-program c = (c.in-Ok-true.ensures (ap Ok c.in-Ok-true.field-0-test)).ran.program ∙ c.requires.program

pub returns-in-Ok-Some-clause-led : goal.returns-in-Ok-Some-clause-led
returns-in-Ok-Some-clause-led c = λ e g step.
    let p = searched c.args.self.now in
    let es = entries c.args.self.now in
    let l = c.args.label.now in
    let a = c.args.plain.now in
    let b = c.settle_after.new.plain in
    let made = c.settle_after.new.shown in
    let to = c.in-Ok-Some.to in
    let settled : HasSettled states_only a b (l ∷ []) made =
    subst (λ (ls : List Label). HasSettled states_only a b ls made) (ap (λ (ls : List Label). ls ++ l ∷ []) c.clear.ensures) (c.in-Ok-true.ensures (ap Ok c.in-Ok-true.field-0-test)) in
    let name : c.next_name.result ≡ e.next = subst (λ o. IfSome o (λ x. c.next_name.result ≡ x.next)) g c.next_name.ensures in
    let there : IsEntryAt es to c.in-Some.after (configuration_of b) = subst (λ o. IfSome o (λ i. IsEntryAt es i c.in-Some.after (configuration_of b))) c.in-Ok-Some.field-0-is c.in-Ok-Some.ensures.found in
    edge_there p es a b e l made c.in-Some.after to c.requires.program step settled (c.in-Some.ensures ∙ ap (λ n. after_label n l) name) there
