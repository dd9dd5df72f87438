use Rattle.std.proofs.Common.{◌∙◌, ap, sym}
use Rattle.pool_syntax.specs.TreeOf.{program_of}
use Rattle.reachability.specs.Search.{is_left_over}
use Rattle.stepper_terms.specs.Arguments.{now_args, now_names, now_choices}
use Rattle.stepper_objects.specs.ObjectStates.{thing_object}
use Rattle.pool_semantics.specs.Plains.{configuration}
use Rattle.pool_semantics.proofs.WaitingObjects.{stays, goes, goes_away}
use Rattle.pool_semantics.proofs.Labels.{running_doing}
use Rattle.pool_semantics.proofs.plain.state.State.stays_at.Goals as goal

pub returns-in-None-clause-none : goal.returns-in-None-clause-none
returns-in-None-clause-none c = λ _.
    let s = c.args.self.now in
    goes_away (program_of s.program.now) (configuration s) c.args.object c.in-None.ensures.none

pub returns-in-Some-clause-some : goal.returns-in-Some-clause-some
returns-in-Some-clause-some c = λ e.
    let s = c.args.self.now in
    let p = program_of s.program.now in
    let t = c.in-Some.field-0-0.now in
    let d = c.in-Some.ensures.some in
    stays p (configuration s) c.args.object (thing_object t) (running_doing p s.objects (configuration s).messages c.args.object t c.in-Some.act d)
    (ap is_left_over d.gives ∙ sym (c.stays.ensures (thing_object t) (now_args t.work.next) (now_names t.work.next) (now_choices t.work.next)) ∙ e)

pub returns-in-Some-clause-none : goal.returns-in-Some-clause-none
returns-in-Some-clause-none c = λ e.
    let s = c.args.self.now in
    let p = program_of s.program.now in
    let t = c.in-Some.field-0-0.now in
    let d = c.in-Some.ensures.some in
    goes p (configuration s) c.args.object (thing_object t) (running_doing p s.objects (configuration s).messages c.args.object t c.in-Some.act d)
    (ap is_left_over d.gives ∙ sym (c.stays.ensures (thing_object t) (now_args t.work.next) (now_names t.work.next) (now_choices t.work.next)) ∙ e)
