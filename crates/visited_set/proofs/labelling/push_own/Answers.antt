use Rattle.std.proofs.Common.{◌≡◌, refl, ◌∙◌, ◌++◌, ◌<◌, ◌+◌, ap, ap₂, sym, subst, List, length, drop, get_or, Some, append_assoc, arith}
use Rattle.std.specs.List.{slice_get}
use Rattle.std.proofs.lemmas.Grind.{common_steps}
use Rattle.std.proofs.lemmas.Option.{slice_get-get_or}
use Rattle.run_types.specs.declared.types.Label.{Label}
use Rattle.pool_syntax.specs.Terms.{ProgramTree}
use Rattle.pool_syntax.specs.TreeOf.{program_of}
use Rattle.pool_relation.specs.Action.{Object, action}
use Rattle.pool_relation.specs.Configuration.{Configuration, object_of}
use Rattle.reachability.specs.Labels.{object_labels, own_labels}
use Rattle.stepper_objects.specs.ObjectStates.{thing_object}
use Rattle.pool_semantics.specs.Sound.{Sound}
use Rattle.object_moves.specs.Rows.{objects_from}
use Rattle.object_moves.specs.Tables.{known_states, table_program}
use Rattle.visited_set.specs.Numbers.{numbered}
use Rattle.visited_set.specs.Rows.{row_of}
use Rattle.visited_set.proofs.RowObjects.{object_there, objects_left}
use Rattle.visited_set.proofs.labelling.push_own.Goals as goal

pub push_labels-requires : goal.push_labels-requires
push_labels-requires c =
    let p = table_program c.args.moves.now in
    let xs = known_states c.args.moves.now in
    let ns = c.args.entry.now.objects.now in
    let i = c.loop-i.i in
    let k : Configuration = numbered xs c.requires.sound.0 (row_of c.args.entry.now) in
    let x : Object = thing_object c.in-Some.thing.now in
    let name : c.in-Ok.name ≡ i = grind (arith, common_steps) in
    let at : slice_get xs (get_or ns i 0) ≡ Some x = sym c.in-Some.ensures in
    let there : slice_get xs (get_or ns i 0) ≡ object_of k i = object_there xs ns k i refl (get_or ns i 0) c.requires.within (slice_get-get_or ns i 0 (omega arith)) in
    (k, subst (λ (q : ProgramTree). Sound q k) (sym c.program.ensures) c.requires.sound.1, ap (object_of k) name ∙ sym there ∙ at)

pub loop-i-preserved : goal.loop-i-preserved
loop-i-preserved c =
    let p = table_program c.args.moves.now in
    let xs = known_states c.args.moves.now in
    let n = c.args.entry.now.next in
    let ms = c.args.entry.now.objects.now in
    let l = c.loop-i in
    let i = l.i in
    let x : Object = thing_object c.in-Some.thing.now in
    let name : c.in-Ok.name ≡ i = grind (arith, common_steps) in
    let at : slice_get xs (get_or ms i 0) ≡ Some x = sym c.in-Some.ensures in
    let inside : i < length ms = omega arith in
    let own : own_labels n c.in-Ok.name (action (program_of c.program.result.now) c.in-Ok.name x) ≡ own_labels n i (action p i x) =
    ap₂ (λ (q : ProgramTree) o. own_labels n o (action q o x)) c.program.ensures name in
    let new : c.push_labels.new.into.items ≡ l.into.items ++ own_labels n i (action p i x) = c.in_ok-push_labels.ensures ∙ ap (λ (ls : List Label). l.into.items ++ ls) own in
    let rest = object_labels p n (objects_from (i + 1) xs (drop (i + 1) ms)) in
    ap (λ (ls : List Label). ls ++ rest) new ∙ append_assoc l.into.items (own_labels n i (action p i x)) rest
    ∙ ap (λ es. l.into.items ++ object_labels p n es) (sym (objects_left xs ms i x inside at)) ∙ l.invariant
