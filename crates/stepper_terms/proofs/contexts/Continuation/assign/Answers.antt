use Rattle.std.proofs.Common.{refl, arith}
use Rattle.std.proofs.lemmas.Grind.{common_steps}
use Rattle.stepper_terms.proofs.ContinuationChanges.{assigned_inside}
use Rattle.stepper_terms.proofs.contexts.Continuation.assign.Goals as goal

pub returns-in_ok-stack-in-Some : goal.returns-in_ok-stack-in-Some
returns-in_ok-stack-in-Some c =
    let a = c.in-Some.call in
    let b = record a { temps = c.set.new.bindings } in
    let ys = c.pop.new.self.items in
    let e = assigned_inside ys a b c.args.self.now.next c.args.name c.args.value c.requires.assigns refl refl refl c.set.ensures in
    grind (arith, common_steps, e)
