use Rattle.std.proofs.Common.{◌≡◌, ◌∙◌, ◌++◌, ap, sym, subst, is_some, OnOk, true}
use Rattle.pool_syntax.specs.TreeOf.{program_of}
use Rattle.run_types.proofs.Laws.{same_some}
use Rattle.pool_relation.specs.Action.{Action, action}
use Rattle.reachability.specs.Labels.{own_labels}
use Rattle.stepper_terms.specs.Arguments.{now_args, now_names, now_choices}
use Rattle.object_acts.specs.Acts.{acted}
use Rattle.stepper_objects.specs.ObjectStates.{thing_object}
use Rattle.pool_semantics.specs.Plains.{configuration}
use Rattle.pool_semantics.specs.Shown.{shown}
use Rattle.pool_semantics.proofs.Alternatives.{few_alternatives}
use Rattle.pool_semantics.proofs.AlwaysShown.{can_be_shown}
use Rattle.pool_semantics.proofs.plain.state.State.push_object.Goals as goal

pub push_own-requires : goal.push_own-requires
push_own-requires c =
    let s = c.args.self.now in
    few_alternatives (program_of s.program.now) (configuration s) c.args.object c.in-Some.thing.now c.requires c.in-Some.ensures.some.0

pub returns-in-Some : goal.returns-in-Some
returns-in-Some c = λ x e.
    let s = c.args.self.now in
    let p = program_of s.program.now in
    let o = c.args.object in
    let t = c.in-Some.thing.now in
    let d = c.in-Some.ensures.some in
    let a = acted (thing_object t) (now_args t.work.next) (now_names t.work.next) (now_choices t.work.next) c.in-Some.act in
    let same : thing_object t ≡ x = same_some (sym d.0 ∙ e) in
    let h : is_some (shown a) ≡ true = ap (λ k. is_some (shown k)) (sym d.1) ∙ can_be_shown p (configuration s) o (thing_object t) c.requires d.0 in
    subst (λ (k : Action). OnOk c.push_own.result (c.push_own.new.into.items ≡ c.args.into.now.items ++ own_labels c.args.name o k)) (sym d.1 ∙ ap (action p o) same) (c.push_own.ensures (thing_object t) h)
