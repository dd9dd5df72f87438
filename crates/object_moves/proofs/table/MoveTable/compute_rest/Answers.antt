use Rattle.std.proofs.Common.{◌≡◌, ◌<◌, refl, sym, ap, subst, ◌∙◌, List, length, slice_get, Some, arith}
use Rattle.std.proofs.lemmas.Option.{slice_get_within}
use Rattle.std.specs.Option.{IfSome}
use Rattle.pool_syntax.specs.TreeOf.{program_of}
use Rattle.pool_relation.specs.Action.{Object}
use Rattle.search_states.specs.States.{states}
use Rattle.stepper_objects.specs.ObjectStates.{thing_object}
use Rattle.object_moves.specs.Roles.{after_local}
use Rattle.object_moves.specs.Known.{IsKnownRest, state_at}
use Rattle.object_moves.specs.declared.known.KnownRest.{KnownRest}
use Rattle.object_moves.proofs.KnownFacts.{rest_computed, state_there}
use Rattle.object_moves.proofs.StateGrowth.{no_shorter, state_still}
use Rattle.object_moves.proofs.table.MoveTable.compute_rest.Goals as goal

pub returns-clause-is : goal.returns-clause-is
returns-clause-is c =
    let p = program_of c.args.self.now.program.now in
    let xs = states c.args.self.now.table in
    let ys = states c.number_of.new.self.table in
    let o = c.args.object in
    let s = c.args.state in
    let first = thing_object c.in_ok-last.last in
    let last = thing_object c.run_local.new.state in
    let steps = c.in-Some-2.steps in
    let n = c.in-Some-3.to in
    let known : KnownRest = record { object = o; state = s; steps = steps; to = n; next = c.in_ok-next.next } in
    let grown = c.number_of.ensures.grows in
    let longer = no_shorter xs ys grown in
    let here : state_at xs s ≡ first = state_there xs s (thing_object c.in-Some.before.now) (sym c.in-Some.ensures) ∙ sym c.in_ok-last.ensures in
    let went : after_local p o steps first ≡ Some last = subst (λ r. IfSome r (λ k. after_local p o k first ≡ Some last)) c.in-Some-2.is c.in_ok-steps.ensures in
    let at : slice_get ys n ≡ Some last = subst (λ r. IfSome r (λ m. slice_get ys m ≡ Some last)) c.in-Some-3.is c.in_ok-to.ensures.found in
    let leads : after_local p o steps (state_at ys s) ≡ Some (state_at ys n) = ap (after_local p o steps) (state_still xs ys s grown c.requires ∙ here) ∙ went ∙ ap Some (sym (state_there ys n last at)) in
    let there : s < length ys = omega (arith, longer, c.requires) in
    let is : IsKnownRest p ys known = rest_computed p ys known there (slice_get_within ys n last at) leads in
    (subst (λ (zs : List Object). IsKnownRest p zs known) (sym c.next_after.ensures.states) is, refl, refl)
