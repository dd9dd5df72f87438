use Rattle.std.proofs.Common.{◌≡◌, ◌∙◌, ap, refl, sym, length, Some, None, true, false}
use Rattle.std.specs.Ordering.{nat_cmp}
use Rattle.std.specs.FinMap.{put}
use Rattle.pool_syntax.specs.TreeOf.{program_of, method_tree, statements_of}
use Rattle.pool_relation.specs.Action.{method_of}
use Rattle.pool_relation.specs.Transition as X
use Rattle.run_types.specs.Same.{are_same}
use Rattle.pool_relation.specs.Transition.{has_message}
use Rattle.pool_relation.specs.Configuration.{messages_of}
use Rattle.stepper_terms.specs.Arguments.{now_args, now_names, now_choices}
use Rattle.stepper_objects.specs.ObjectStates.{thing_object}
use Rattle.object_acts.specs.ClassesAndMethods.{method_seen}
use Rattle.stepper_objects.specs.Offers.{offered, offer_act}
use Rattle.pool_semantics.specs.Plains.{configuration}
use Rattle.object_acts.specs.Acts.{calls_act}
use Rattle.pool_semantics.proofs.Labels.{answer_refused, answer_without, answer_made, answer_by_two, answered_none, answered_barred, answered_unknown, answered_some}
use Rattle.pool_semantics.proofs.plain.state.State.answer.Goals as goal

pub returns-then-not-calls-clause-step : goal.returns-then-not-calls-clause-step
returns-then-not-calls-clause-step c =
    let s = c.args.self.now in
    let x = c.in-Some.asking.now in
    let h : calls_act c.in-Some.sends c.args.receiver c.args.method.0 (are_same (now_args x.work.next) c.args.args) ≡ false =
    sym (c.calls.ensures ∙ ap (calls_act c.in-Some.sends c.args.receiver c.args.method.0) (c.has_args.ensures ∙ ap (are_same (now_args x.work.next)) c.values.ensures)) ∙ c.if-not-calls.true in
    (answer_refused (program_of s.program.now) s.objects (configuration s).messages c.args.receiver c.args.caller c.args.method c.args.args x c.in-Some.sends c.in-Some.ensures.some h, refl)

pub returns-in_default-offer_to-clause-step : goal.returns-in_default-offer_to-clause-step
returns-in_default-offer_to-clause-step c =
    let s = c.args.self.now in
    let x = c.in-Some.asking.now in
    let y = c.in-Some-acting.serving.now in
    let w : offer_act c.in-Some-acting.act (now_names y.work.next) (now_choices y.work.next) c.args.method.0 ≡ None = sym c.offer_to.ensures ∙ ap offered c.in_default-offer_to.is in (
      answer_without (program_of s.program.now) s.objects (configuration s).messages c.args.receiver c.args.caller c.args.method c.args.args x y c.in-Some.sends c.in-Some-acting.act c.in-Some.ensures.some c.in-Some-acting.ensures.some
          (answered_none (program_of s.program.now) (configuration s) c.args.receiver c.args.caller c.args.method c.args.args (thing_object x) (thing_object y) _ w),
      refl,
    )

pub returns-then-barred-clause-step : goal.returns-then-barred-clause-step
returns-then-barred-clause-step c =
    let s = c.args.self.now in
    let x = c.in-Some.asking.now in
    let y = c.in-Some-acting.serving.now in
    let v : X.Offer = record { names = c.in-Some-offer_to.offer.names.now; work = statements_of c.in-Some-offer_to.offer.after.now } in
    let w : offer_act c.in-Some-acting.act (now_names y.work.next) (now_choices y.work.next) c.args.method.0 ≡ Some v = sym c.offer_to.ensures ∙ ap offered c.in-Some-offer_to.is in
    let h : has_message v.names (messages_of (configuration s) c.args.caller c.args.receiver) ≡ true = sym c.barred.ensures ∙ c.if-barred.true in (
      answer_without (program_of s.program.now) s.objects (configuration s).messages c.args.receiver c.args.caller c.args.method c.args.args x y c.in-Some.sends c.in-Some-acting.act c.in-Some.ensures.some c.in-Some-acting.ensures.some
          (answered_barred (program_of s.program.now) (configuration s) c.args.receiver c.args.caller c.args.method c.args.args (thing_object x) (thing_object y) _ v w h),
      refl,
    )

pub returns-in_default-find_method-clause-step : goal.returns-in_default-find_method-clause-step
returns-in_default-find_method-clause-step c =
    let s = c.args.self.now in
    let p = program_of s.program.now in
    let x = c.in-Some.asking.now in
    let y = c.in-Some-acting.serving.now in
    let v : X.Offer = record { names = c.in-Some-offer_to.offer.names.now; work = statements_of c.in-Some-offer_to.offer.after.now } in
    let w : offer_act c.in-Some-acting.act (now_names y.work.next) (now_choices y.work.next) c.args.method.0 ≡ Some v = sym c.offer_to.ensures ∙ ap offered c.in-Some-offer_to.is in
    let h : method_of p y.class c.args.method.0 (length c.args.args) ≡ None = ap (λ l. method_of p y.class c.args.method.0 (length l)) (sym c.values-2.ensures) ∙ sym c.find_method.ensures ∙ ap method_seen c.in_default-find_method.is in (
      answer_without p s.objects (configuration s).messages c.args.receiver c.args.caller c.args.method c.args.args x y c.in-Some.sends c.in-Some-acting.act c.in-Some.ensures.some c.in-Some-acting.ensures.some
          (answered_unknown p (configuration s) c.args.receiver c.args.caller c.args.method c.args.args (thing_object x) (thing_object y) _ v w h),
      refl,
    )

pub returns-clause-step : goal.returns-clause-step
returns-clause-step c =
    let s = c.args.self.now in
    let p = program_of s.program.now in
    let ms = (configuration s).messages in
    let b = c.args.receiver in
    let o = c.args.caller in
    let n = c.args.method in
    let args = c.args.args in
    let x = c.in-Some.asking.now in
    let y = c.in-Some-acting.serving.now in
    let a1 = c.in-Some.sends in
    let a2 = c.in-Some-acting.act in
    let d = c.in-Some.ensures.some in
    let g = c.in-Some-acting.ensures.some in
    let k = c.in-Some-find_method.found.now in
    let v : X.Offer = record { names = c.in-Some-offer_to.offer.names.now; work = statements_of c.in-Some-offer_to.offer.after.now } in
    let q : calls_act a1 b n.0 (are_same (now_args x.work.next) args) ≡ true =
    sym (c.calls.ensures ∙ ap (calls_act a1 b n.0) (c.has_args.ensures ∙ ap (are_same (now_args x.work.next)) c.values.ensures)) ∙ c.if-not-calls.false in
    let w : offer_act a2 (now_names y.work.next) (now_choices y.work.next) n.0 ≡ Some v = sym c.offer_to.ensures ∙ ap offered c.in-Some-offer_to.is in
    let h : has_message v.names (messages_of (configuration s) o b) ≡ false = sym c.barred.ensures ∙ c.if-barred.false in
    let j : method_of p y.class n.0 (length args) ≡ Some (method_tree k) = ap (λ l. method_of p y.class n.0 (length l)) (sym c.values-2.ensures) ∙ sym c.find_method.ensures ∙ ap method_seen c.in-Some-find_method.is in
    let apart = answer_by_two p s.objects b o n _ x y a1 a2 v d g q w in (
      answer_made p s.objects ms b o n args x y a1 a2 d g q
          ∙ answered_some p (configuration s) b o n args (thing_object x) (thing_object y) _ v (method_tree k) w h j
          ∙ ap (λ os. Some (record { objects = os; messages = ms }))
          (sym (c.in_ok-update-2.ensures.changed y (c.update.ensures.others b apart ∙ g.found) ∙ ap (put nat_cmp b _) (c.in_ok-update.ensures.changed x d.found))),
      refl,
    )
