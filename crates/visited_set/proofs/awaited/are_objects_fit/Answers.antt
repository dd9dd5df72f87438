use Rattle.std.proofs.Common.{rules, ◌≡◌, ◌≤◌, ◌∙◌, ℕ, refl, sym, subst, true, get_or, length, Some, arith}
use Rattle.std.specs.List.{slice_get}
use Rattle.std.proofs.lemmas.Grind.{common_steps}
use Rattle.pool_syntax.specs.Terms.{ProgramTree}
use Rattle.pool_syntax.specs.TreeOf.{program_of}
use Rattle.pool_relation.specs.Action.{Object}
use Rattle.stepper_objects.specs.ObjectStates.{thing_object}
use Rattle.known_names.specs.Awaited.{IsFit, is_state_fit}
use Rattle.object_moves.specs.Tables.{known_states, table_program}
use Rattle.visited_set.proofs.RowObjects.{one_less, none_less}
use Rattle.visited_set.proofs.awaited.are_objects_fit.Goals as goal

pub loop-i-init : goal.loop-i-init
loop-i-init c = λ all. all

pub loop-i-preserved : goal.loop-i-preserved
loop-i-preserved c =
    let p = table_program c.args.moves.now in
    let xs = known_states c.args.moves.now in
    let ns = c.args.numbers.now in
    let i = c.loop-i.i in
    let x : Object = thing_object c.in-Some.thing.now in
    let name : c.in-Ok.name ≡ i = grind (arith, common_steps) in
    let at : slice_get xs (get_or ns i 0) ≡ Some x = sym c.in-Some.ensures in
    let t = c.in-Some.thing.now in
    let told : is_state_fit (program_of c.program.result.now) c.args.others.next c.args.others.name c.in-Ok.name t ≡ true = sym c.is_fit.ensures ∙ c.if-not-is_fit.false in
    let fit : IsFit p c.args.others.next c.args.others.name i x =
    subst (λ (q : ProgramTree). IsFit q c.args.others.next c.args.others.name i x) c.program.ensures
    (subst (λ k. IsFit (program_of c.program.result.now) c.args.others.next c.args.others.name k x) name (t, refl, told)) in
    one_less xs ns (λ (e : ℕ × Object). IsFit p c.args.others.next c.args.others.name e.0 e.1) i x (omega arith) at fit c.loop-i.invariant

pub returns : goal.returns
returns c = λ told within.
    let past : length c.args.numbers.now ≤ c.loop-i.i = search rules in
    none_less (known_states c.args.moves.now) c.args.numbers.now (λ (e : ℕ × Object). IsFit (table_program c.args.moves.now) c.args.others.next c.args.others.name e.0 e.1) c.loop-i.i past c.loop-i.invariant
