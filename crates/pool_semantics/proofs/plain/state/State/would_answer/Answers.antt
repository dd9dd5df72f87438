use Rattle.std.proofs.Common.{◌∙◌, ap, sym, not}
use Rattle.pool_syntax.specs.TreeOf.{program_of, statements_of}
use Rattle.stepper_objects.specs.Offers.{offered}
use Rattle.stepper_objects.specs.ObjectStates.{thing_object}
use Rattle.pool_semantics.specs.Plains.{configuration}
use Rattle.pool_semantics.proofs.Labels.{running_doing}
use Rattle.pool_semantics.proofs.MoverSearch.{answers_without, answers_with, offers_acted}
use Rattle.pool_semantics.proofs.plain.state.State.would_answer.Goals as goal

pub returns-in_default-offer_to : goal.returns-in_default-offer_to
returns-in_default-offer_to c =
    let s = c.args.self.now in
    let p = program_of s.program.now in
    let y = c.in-Some.serving.now in
    let d = c.in-Some.ensures.some in
    sym (answers_without p (configuration s) c.args.caller c.args.receiver c.args.method.0 (thing_object y) (running_doing p s.objects (configuration s).messages c.args.receiver y c.in-Some.act d)
    (offers_acted p c.args.receiver y c.in-Some.act d.gives c.args.method.0 ∙ (sym c.offer_to.ensures ∙ ap offered c.in_default-offer_to.is)))

pub returns : goal.returns
returns c =
    let s = c.args.self.now in
    let p = program_of s.program.now in
    let y = c.in-Some.serving.now in
    let d = c.in-Some.ensures.some in
    ap not c.barred.ensures ∙ sym (answers_with p (configuration s) c.args.caller c.args.receiver c.args.method.0 (thing_object y) (record { names = c.in-Some-offer_to.offer.names.now; work = statements_of c.in-Some-offer_to.offer.after.now })
    (running_doing p s.objects (configuration s).messages c.args.receiver y c.in-Some.act d)
    (offers_acted p c.args.receiver y c.in-Some.act d.gives c.args.method.0 ∙ (sym c.offer_to.ensures ∙ ap offered c.in-Some-offer_to.is)))
