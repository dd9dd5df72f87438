use Rattle.std.proofs.Common.{◌≡◌, ◌∙◌, ap, sym, refl, is_some, true}
use Rattle.pool_syntax.specs.TreeOf.{program_of}
use Rattle.pool_relation.proofs.Laws.{running_is}
use Rattle.stepper_terms.specs.Arguments.{now_args, now_names, now_choices}
use Rattle.object_acts.specs.Acts.{acted}
use Rattle.stepper_objects.specs.ObjectStates.{thing_object}
use Rattle.pool_semantics.specs.Plains.{configuration}
use Rattle.pool_semantics.specs.Shown.{shown}
use Rattle.pool_semantics.specs.SearchQueries.{free_label, free_at}
use Rattle.pool_semantics.proofs.AlwaysShown.{can_be_shown}
use Rattle.pool_semantics.proofs.Labels.{running_doing}
use Rattle.pool_semantics.proofs.plain.state.State.free_at.Goals as goal

pub returns-in-Some : goal.returns-in-Some
returns-in-Some c =
    let s = c.args.self.now in
    let p = program_of s.program.now in
    let o = c.args.object in
    let t = c.in-Some.thing.now in
    let d = c.in-Some.ensures.some in
    let a = acted (thing_object t) (now_args t.work.next) (now_names t.work.next) (now_choices t.work.next) c.in-Some.act in
    let r = running_doing p s.objects (configuration s).messages o t c.in-Some.act d in
    let h : is_some (shown a) ≡ true = ap (λ k. is_some (shown k)) (sym d.gives) ∙ can_be_shown p (configuration s) o (thing_object t) c.requires (running_is (configuration s) o (thing_object t) r).0 in
    let e : free_at p (configuration s) o ≡ free_label o a = rw (r, d.gives) refl in
    c.free_label.ensures (thing_object t) h ∙ sym e
