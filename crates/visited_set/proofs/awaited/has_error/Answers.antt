use Rattle.std.proofs.Common.{rules, ◌≡◌, ◌≤◌, sym, get_or, length, Some, None, arith}
use Rattle.std.specs.List.{slice_get}
use Rattle.pool_relation.specs.Action.{Object}
use Rattle.stepper_objects.specs.ObjectStates.{thing_object}
use Rattle.object_moves.specs.Tables.{known_states}
use Rattle.visited_set.proofs.RowObjects.{IsFine, none_faulty, none_less, one_less}
use Rattle.visited_set.proofs.awaited.has_error.Goals as goal

pub loop-number-preserved : goal.loop-number-preserved
loop-number-preserved c =
    let xs = known_states c.args.moves.now in
    let ns = c.args.numbers.now in
    let i = c.loop-number.number-index in
    let x : Object = thing_object c.in-Some.thing.now in
    let at : slice_get xs (get_or ns i 0) ≡ Some x = sym c.in-Some.ensures in
    let fine : x.fault ≡ None = search rules in
    one_less xs ns IsFine i x (omega arith) at fine c.loop-number.invariant

pub returns : goal.returns
returns c = λ told k same.
    let xs = known_states c.args.moves.now in
    let ns = c.args.numbers.now in
    let past : length ns ≤ c.loop-number.number-index = search rules in
    none_faulty xs ns k same (none_less xs ns IsFine c.loop-number.number-index past c.loop-number.invariant)
