use Rattle.std.proofs.Common.{◌≡◌, ◌≤◌, ◌∙◌, ◌++◌, ap, sym, subst, is_some, length, OnOk, true}
use Rattle.pool_syntax.specs.TreeOf.{program_of}
use Rattle.pool_relation.specs.Action.{Action, action}
use Rattle.reachability.specs.Labels.{own_labels}
use Rattle.stepper_terms.specs.Arguments.{now_args, now_names, now_choices}
use Rattle.stepper_terms.specs.declared.contexts.Continuation.{Continuation}
use Rattle.object_acts.specs.Acts.{acted}
use Rattle.stepper_objects.specs.ObjectStates.{thing_object}
use Rattle.pool_semantics.specs.Shown.{shown}
use Rattle.pool_semantics.proofs.Alternatives.{few_alternatives}
use Rattle.pool_semantics.proofs.AlwaysShown.{can_be_shown}
use Rattle.pool_semantics.proofs.plain.labels.push_labels.Goals as goal

pub push_own-requires : goal.push_own-requires
push_own-requires c =
    let r = c.requires in
    subst (λ (w : Continuation). length (now_choices w.next) ≤ 64) (sym c.next_act-act.ensures.work)
    (few_alternatives (program_of c.args.program.now) r.0 c.args.object c.args.thing.now r.1 r.2)

pub returns : goal.returns
returns c =
    let p = program_of c.args.program.now in
    let o = c.args.object in
    let t = c.args.thing.now in
    let r = c.requires in
    let told = c.next_act-act in
    let w = told.result.0.now in
    let a = acted (thing_object t) (now_args w.next) (now_names w.next) (now_choices w.next) told.result.1 in
    let is : action p o (thing_object t) ≡ a =
    subst (λ (v : Continuation). action p o (thing_object t) ≡ acted (thing_object t) (now_args v.next) (now_names v.next) (now_choices v.next) told.result.1) (sym told.ensures.work) told.ensures.act
    in
    let h : is_some (shown a) ≡ true = ap (λ k. is_some (shown k)) (sym is) ∙ can_be_shown p r.0 o (thing_object t) r.1 r.2 in
    subst (λ (k : Action). OnOk c.push_own.result (c.push_own.new.into.items ≡ c.args.into.now.items ++ own_labels c.args.name o k)) (sym is) (c.push_own.ensures (thing_object t) h)
