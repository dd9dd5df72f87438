use Rattle.std.proofs.Common.{◌≡◌, sym, ap, slice_get, subst, Some}
use Rattle.std.specs.Option.{IfSome}
use Rattle.search_states.specs.States.{states}
use Rattle.stepper_objects.specs.ObjectStates.{thing_object}
use Rattle.std.proofs.lemmas.Option.{slice_get_within}
use Rattle.object_moves.proofs.KnownFacts.{only_within, state_there}
use Rattle.object_moves.proofs.table.MoveTable.edge_to.Goals as goal

pub returns-in-Ok-Some-clause-is : goal.returns-in-Ok-Some-clause-is
returns-in-Ok-Some-clause-is c =
    let ys = states c.number_of.new.self.table in
    let x = thing_object c.args.state.now in
    let told = c.in-Ok-Some in
    let at : slice_get ys told.to ≡ Some x = subst (λ r. IfSome r (λ n. slice_get ys n ≡ Some x)) told.field-0-is told.ensures.found in
    ap Some (sym (state_there ys told.to x at))

pub returns-in-Ok-Some-clause-within : goal.returns-in-Ok-Some-clause-within
returns-in-Ok-Some-clause-within c =
    let ys = states c.number_of.new.self.table in
    let x = thing_object c.args.state.now in
    let told = c.in-Ok-Some in
    let at : slice_get ys told.to ≡ Some x = subst (λ r. IfSome r (λ n. slice_get ys n ≡ Some x)) told.field-0-is told.ensures.found in
    only_within ys told.to (slice_get_within ys told.to x at)
