use Rattle.std.proofs.Common.{subst, sym}
use Rattle.pool_syntax.specs.TreeOf.{program_of}
use Rattle.stepper_terms.specs.Arguments.{now_args, now_names, now_choices}
use Rattle.object_acts.specs.Acts.{acted}
use Rattle.stepper_objects.specs.ObjectStates.{thing_object}
use Rattle.pool_semantics.specs.Plains.{configuration}
use Rattle.pool_semantics.specs.Moving.{MovesBy, IsTheOne}
use Rattle.pool_semantics.proofs.Labels.{running_doing}
use Rattle.pool_semantics.proofs.MoverSearch.{called, not_called, not_sent}
use Rattle.pool_semantics.proofs.plain.state.State.moved_by.Goals as goal

pub returns-in-Send : goal.returns-in-Send
returns-in-Send c =
    let s = c.args.self.now in
    let p = program_of s.program.now in
    let t = c.in-Some.thing.now in
    let d = rw c.in-Send.is at c.in-Some.ensures.some in
    subst (λ r. IsTheOne (MovesBy p (configuration s) c.args.object) r) (sym c.then_some.ensures)
    (called p (configuration s) c.args.object c.in-Send.to c.in-Send.method.0 (now_args t.work.next) (thing_object t) (running_doing p s.objects (configuration s).messages c.args.object t _ d) d.gives c.would_answer.result (sym c.would_answer.ensures))

pub returns-in_default : goal.returns-in_default
returns-in_default c =
    let s = c.args.self.now in
    let p = program_of s.program.now in
    let t = c.in-Some.thing.now in
    let d = c.in-Some.ensures.some in
    let a = acted (thing_object t) (now_args t.work.next) (now_names t.work.next) (now_choices t.work.next) c.in-Some.act in
    subst (λ r. IsTheOne (MovesBy p (configuration s) c.args.object) r) (sym c.then_some-in_default.ensures)
    (not_called p (configuration s) c.args.object (thing_object t) a (running_doing p s.objects (configuration s).messages c.args.object t c.in-Some.act d) d.gives
    (not_sent (thing_object t) (now_args t.work.next) (now_names t.work.next) (now_choices t.work.next) c.in-Some.act c.in_default.not-Send) c.goes_alone.result (sym (c.goes_alone.ensures (thing_object t))))
