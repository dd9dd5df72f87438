use Rattle.std.proofs.Common.{◌≡◌, ◌∙◌, ap, sym, subst, is_some}
use Rattle.pool_syntax.specs.TreeOf.{program_of}
use Rattle.pool_relation.specs.Action.{action}
use Rattle.stepper_terms.specs.Arguments.{now_args, now_names, now_choices}
use Rattle.stepper_objects.specs.ObjectStates.{thing_object}
use Rattle.pool_semantics.specs.Moving.{IsTheOne}
use Rattle.pool_semantics.specs.Plains.{configuration}
use Rattle.pool_semantics.specs.SearchQueries.{call_of, WaitsFrom}
use Rattle.pool_semantics.proofs.WaitingObjects.{called_some, waits_below, waits_nobody, waits_told}
use Rattle.pool_semantics.proofs.Labels.{running_doing}
use Rattle.pool_semantics.proofs.plain.state.State.waits_from.Goals as goal

pub returns-then-object-from : goal.returns-then-object-from
returns-then-object-from c =
    let s = c.args.self.now in
    waits_below (program_of s.program.now) (configuration s) c.args.from c.args.object c.if-object-from.true

pub returns-in-None : goal.returns-in-None
returns-in-None c =
    let s = c.args.self.now in
    waits_nobody (program_of s.program.now) (configuration s) c.args.from c.args.object c.in-None.ensures.none

pub returns-in-Some : goal.returns-in-Some
returns-in-Some c =
    let s = c.args.self.now in
    let p = program_of s.program.now in
    let o = c.args.object in
    let t = c.in-Some.field-0-0.now in
    let d = c.in-Some.ensures.some in
    let told : is_some (call_of (action p o (thing_object t))) ≡ c.is_some.result =
    ap (λ a. is_some (call_of a)) d.gives ∙ sym (ap is_some (c.call_of.ensures (thing_object t) (now_args t.work.next) (now_names t.work.next) (now_choices t.work.next))) ∙ called_some c.call_of.result ∙ sym c.is_some.ensures in
    subst (λ r. IsTheOne (WaitsFrom p (configuration s) c.args.from o) r) (sym c.then_some.ensures)
    (waits_told p (configuration s) c.args.from o (thing_object t) (running_doing p s.objects (configuration s).messages o t c.in-Some.act d) c.if-object-from.false c.is_some.result told)
