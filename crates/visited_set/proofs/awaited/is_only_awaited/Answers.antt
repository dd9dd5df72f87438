use Rattle.std.proofs.Common.{◌≡◌, refl, ◌∙◌, ap, sym, ℕ, List, Some, true}
use Rattle.run_types.specs.Message.{Message}
use Rattle.run_types.specs.Tables.{Each, Pair}
use Rattle.pool_syntax.specs.Terms.{ProgramTree}
use Rattle.pool_relation.specs.Action.{Object}
use Rattle.pool_relation.specs.Configuration.{Configuration, object_of}
use Rattle.stepper_objects.specs.ObjectStates.{thing_object}
use Rattle.known_names.specs.Awaited.{IsFit, is_queue_fit, is_serving}
use Rattle.known_names.proofs.Laws.{only_awaited}
use Rattle.object_moves.specs.Tables.{known_states, table_program}
use Rattle.visited_set.specs.Numbers.{numbered}
use Rattle.visited_set.specs.Rows.{row_of}
use Rattle.visited_set.proofs.awaited.is_only_awaited.Goals as goal

pub returns : goal.returns
returns c = λ told sorted l d own step.
    let p = table_program c.args.moves.now in
    let xs = known_states c.args.moves.now in
    let ms = c.args.lists.now in
    let e = row_of c.args.entry.now in
    let b = c.args.object in
    let k : Configuration = numbered xs ms e in
    let x : Object = thing_object c.in-Some.thing.now in
    let there : Some x ≡ object_of k b = c.in-Some.ensures k refl in
    let serving : is_serving p b (object_of k b) ≡ true =
    ap (is_serving p b) (sym there) ∙ ap (λ (q : ProgramTree). is_serving q b (Some x)) (sym c.program.ensures) ∙ sym c.is_serving.ensures ∙ c.if-not-is_serving.false in
    let objects : Each (λ (i : ℕ × Object). IsFit p e.next b i.0 i.1) k.objects = c.are_objects_fit.ensures c.if-not-are_objects_fit.false c.requires.within in
    let queues : Each (λ (i : Pair × List Message). is_queue_fit p e.next b k i.0.1 i.1 ≡ true) k.messages = c.are_queues_fit.ensures told k refl in
    only_awaited p e.next b k c.if-object-entry.false serving objects queues sorted l d own step
