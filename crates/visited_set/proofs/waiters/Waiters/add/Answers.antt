use Rattle.std.proofs.Common.{rules, ◌≡◌, ◌<◌, ◌≤◌, List, ◌∷◌, ◌++◌, [], refl, sym, subst, ap, ap₂, ◌∙◌, get_or, length, Some, true, false, append_assoc, arith}
use Rattle.std.specs.List.{slice_get}
use Rattle.std.proofs.lemmas.Grind.{common_steps}
use Rattle.std.proofs.lemmas.Option.{slice_get-get_or}
use Rattle.run_types.specs.Tables.{Each}
use Rattle.pool_syntax.specs.Terms.{ProgramTree}
use Rattle.pool_relation.specs.Action.{Object}
use Rattle.pool_relation.specs.Configuration.{Configuration, object_of}
use Rattle.known_names.specs.Awaited.{is_calling}
use Rattle.stepper_objects.specs.ObjectStates.{thing_object}
use Rattle.object_moves.specs.Rows.{objects_from}
use Rattle.object_moves.specs.Tables.{known_states, table_program}
use Rattle.visited_set.specs.WaiterLists.{HasWaiter, IsOpen}
use Rattle.visited_set.specs.declared.waiters.Waiter.{Waiter}
use Rattle.visited_set.specs.declared.waiters.Waiters.{Waiters}
use Rattle.std.proofs.lemmas.Result.{err_from_is_err_and}
use Rattle.visited_set.proofs.FailedResults.{not_ok}
use Rattle.visited_set.proofs.EachMore.{each_more}
use Rattle.visited_set.proofs.RowObjects.{object_there, place_within}
use Rattle.visited_set.proofs.FailedResults.{not_true}
use Rattle.visited_set.proofs.WaiterPlaces.{added_more, has_last, has_more}
use Rattle.visited_set.proofs.waiters.Waiters.add.Goals as goal
use Rattle.visited_set.proofs.waiters.Waiters.add.Goals.{then-is_calling+in_ok-push-2, else-is_calling}

pub loop-i-preserved : goal.loop-i-preserved
loop-i-preserved c =
    let l = c.loop-i in
    let p = table_program c.args.moves.now in
    let xs = known_states c.args.moves.now in
    let ns = c.args.numbers.now in
    let i = l.i in
    let at = c.args.entry in
    let old = l.self.list.items in
    let new = c.if-is_calling.self.list.items in
    let x : Object = thing_object c.in-Some.thing.now in
    let is : slice_get xs (get_or ns i 0) ≡ Some x = sym c.in-Some.ensures in
    let name : c.in-Ok.object ≡ i = grind (arith, common_steps) in
    let inside : i < length ns = omega arith in
    let there : (k : Configuration) → k.objects ≡ objects_from 0 xs ns → object_of k i ≡ Some x =
    (λ k same. sym (object_there xs ns k i same (get_or ns i 0) c.requires (slice_get-get_or ns i 0 inside)) ∙ is)
    in
    let calls : c.is_calling.result ≡ is_calling p i (Some x) = c.is_calling.ensures ∙ ap₂ (λ (q : ProgramTree) o. is_calling q o (Some x)) c.program.ensures name in
    elim c.if-is_calling.branch [
      | then-is_calling+in_ok-push-2 w ↦
          let one : Waiter = record { entry = at; object = c.in-Ok.object; goes_on = false } in
          let items : new ≡ old ++ one ∷ [] = ap (λ (s : Waiters). s.list.items) w.self-is ∙ w.in_ok-push-2.ensures.items in
          record {
            grown = (
              l.invariant.grown.0 ++ one ∷ [],
              items ∙ ap (λ (vs : List Waiter). vs ++ one ∷ []) l.invariant.grown.1 ∙ append_assoc c.args.self.now.list.items l.invariant.grown.0 (one ∷ []),
            );
            none_noted = λ h. subst (Each IsOpen) (sym items) (each_more IsOpen old one (l.invariant.none_noted h) refl);
            all = λ k same o below waits.
                added_more p k old new at i x (there k same) (l.invariant.all k same) (λ q h. subst (HasWaiter false at q) (sym items) (has_more false at q old (one ∷ []) h))
                (λ _. subst (HasWaiter false at i) (sym items) (subst (λ n. HasWaiter false at n (old ++ one ∷ [])) name (has_last old one))) o below waits;
          }
      | else-is_calling w ↦
          let items : new ≡ old = ap (λ (s : Waiters). s.list.items) w.self-is in
          record {
            grown = (l.invariant.grown.0, items ∙ l.invariant.grown.1);
            none_noted = λ h. subst (Each IsOpen) (sym items) (l.invariant.none_noted h);
            all = λ k same o below waits.
                added_more p k old new at i x (there k same) (l.invariant.all k same) (λ q h. subst (HasWaiter false at q) (sym items) h)
                (λ h. absurd (let z : true ≡ false = sym h ∙ sym calls ∙ w.if-is_calling.false in cc)) o below waits;
          }
    ]

pub returns-clause-all : goal.returns-clause-all
returns-clause-all c = λ told k same o waits.
    let xs = known_states c.args.moves.now in
    let ns = c.args.numbers.now in
    let past : length ns ≤ c.loop-i.i = search rules in
    let inside : o < length ns = place_within xs ns k o same waits.object waits.there in
    c.loop-i.invariant.all k same o (omega arith) waits

pub returns-in_default-try_from-clause-grown : goal.returns-in_default-try_from-clause-grown
returns-in_default-try_from-clause-grown c = c.loop-i.invariant.grown

pub returns-in_default-try_from-clause-none_noted : goal.returns-in_default-try_from-clause-none_noted
returns-in_default-try_from-clause-none_noted c = c.loop-i.invariant.none_noted

pub returns-in_default-try_from-clause-all : goal.returns-in_default-try_from-clause-all
returns-in_default-try_from-clause-all c = λ told. absurd (not_true _ refl told)

pub returns-clause-grown : goal.returns-clause-grown
returns-clause-grown c = c.loop-i.invariant.grown

pub returns-clause-none_noted : goal.returns-clause-none_noted
returns-clause-none_noted c = c.loop-i.invariant.none_noted

pub returns-in_err-push-clause-grown : goal.returns-in_err-push-clause-grown
returns-in_err-push-clause-grown c = rw ((err_from_is_err_and c.from_residual.result c.from_residual.ensures.1).1) tt

pub returns-in_err-push-clause-none_noted : goal.returns-in_err-push-clause-none_noted
returns-in_err-push-clause-none_noted c = rw ((err_from_is_err_and c.from_residual.result c.from_residual.ensures.1).1) tt

pub returns-in_err-push-clause-all : goal.returns-in_err-push-clause-all
returns-in_err-push-clause-all c = λ told. absurd (not_ok c.from_residual.result (err_from_is_err_and c.from_residual.result c.from_residual.ensures.1).0 true (err_from_is_err_and c.from_residual.result c.from_residual.ensures.1).1 told)

pub returns-in_err-push-2-clause-grown : goal.returns-in_err-push-2-clause-grown
returns-in_err-push-2-clause-grown c = rw ((err_from_is_err_and c.from_residual-in_err-push-2.result c.from_residual-in_err-push-2.ensures.1).1) tt

pub returns-in_err-push-2-clause-none_noted : goal.returns-in_err-push-2-clause-none_noted
returns-in_err-push-2-clause-none_noted c = rw ((err_from_is_err_and c.from_residual-in_err-push-2.result c.from_residual-in_err-push-2.ensures.1).1) tt

pub returns-in_err-push-2-clause-all : goal.returns-in_err-push-2-clause-all
returns-in_err-push-2-clause-all c = λ told. absurd (not_ok c.from_residual-in_err-push-2.result (err_from_is_err_and c.from_residual-in_err-push-2.result c.from_residual-in_err-push-2.ensures.1).0 true (err_from_is_err_and c.from_residual-in_err-push-2.result c.from_residual-in_err-push-2.ensures.1).1 told)
