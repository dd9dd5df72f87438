use Rattle.std.proofs.Common.{◌≡◌, sym, ap, ◌∙◌, get_or, Some, arith}
use Rattle.std.specs.Ordering.{nat_cmp}
use Rattle.std.specs.BTreeMap.{insert_entry}
use Rattle.std.specs.List.{slice_get}
use Rattle.std.proofs.lemmas.Grind.{common_steps}
use Rattle.std.proofs.lemmas.Option.{get_or_from_slice_get}
use Rattle.object_moves.specs.Tables.{known_states}
use Rattle.stepper_objects.specs.ObjectStates.{thing_object, things}
use Rattle.object_moves.specs.Rows.{no_object}
use Rattle.visited_set.proofs.NumberingSteps.{objects_step}
use Rattle.visited_set.proofs.restored.objects_at.Goals as goal

pub loop-i-preserved : goal.loop-i-preserved
loop-i-preserved c =
    let xs = known_states c.args.table.now in
    let ns = c.args.numbers.now in
    let i = c.loop-i.i in
    let t = c.in_ok-copy.field-0 in
    let name : c.in-Ok.name ≡ i = grind (arith, common_steps) in
    let at : slice_get xs (get_or ns i 0) ≡ Some (thing_object c.in-Some.thing.now) = sym c.in-Some.ensures in
    ap things (c.in_ok-insert.ensures.entries ∙ ap (λ k. insert_entry nat_cmp c.loop-i.objects.entries k t) name)
    ∙ objects_step xs ns i t c.loop-i.objects.entries c.loop-i.invariant (omega arith) (c.in_ok-copy.ensures ∙ sym (get_or_from_slice_get xs (get_or ns i 0) (thing_object c.in-Some.thing.now) no_object at))
