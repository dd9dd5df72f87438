use Rattle.std.proofs.Common.{◌≡◌, ◌∙◌, ℕ, Option, Some, None, ap, sym, subst}
use Rattle.pool_syntax.specs.TreeOf.{program_of}
use Rattle.pool_relation.specs.Action.{action}
use Rattle.stepper_terms.specs.Arguments.{now_args, now_names, now_choices}
use Rattle.stepper_objects.specs.ObjectStates.{thing_object}
use Rattle.pool_semantics.specs.Plains.{configuration}
use Rattle.pool_semantics.specs.SearchQueries.{call_of, called}
use Rattle.pool_semantics.proofs.WaitingObjects.{LeastWaits, none_waits, one_waits, least_waits, waits_calls, same_call}
use Rattle.pool_semantics.proofs.Labels.{running_doing}
use Rattle.pool_semantics.proofs.plain.Plain.waiting.Goals as goal

pub returns-in_default-clause-none : goal.returns-in_default-clause-none
returns-in_default-clause-none c =
    let s = c.args.self.now.state in
    let p = program_of s.program.now in
    none_waits p (configuration s) c.args.from (subst (λ (r : Option ℕ). LeastWaits p (configuration s) c.args.from r) c.in_default.is c.least_waiting.ensures)

pub returns-in_default-call_of-clause-none : goal.returns-in_default-call_of-clause-none
returns-in_default-call_of-clause-none c =
    let s = c.args.self.now.state in
    let p = program_of s.program.now in
    let a = c.in-Some.object in
    let t = c.in-Some-acting.field-0-0.now in
    let d = c.in-Some-acting.ensures.some in
    let w = one_waits p (configuration s) c.args.from a (subst (λ (r : Option ℕ). LeastWaits p (configuration s) c.args.from r) c.in-Some.is c.least_waiting.ensures) in
    let n : call_of (action p a (thing_object t)) ≡ None = ap call_of d.gives ∙ sym (c.call_of.ensures (thing_object t) (now_args t.work.next) (now_names t.work.next) (now_choices t.work.next)) ∙ ap called c.in_default-call_of.is in
    absurd (waits_calls p (configuration s) a (thing_object t) w (running_doing p s.objects (configuration s).messages a t c.in-Some-acting.act d) n)

pub returns-clause-call : goal.returns-clause-call
returns-clause-call c = λ x e.
    let s = c.args.self.now.state in
    let p = program_of s.program.now in
    let a = c.in-Some.object in
    let t = c.in-Some-acting.field-0-0.now in
    let d = c.in-Some-acting.ensures.some in
    let k = c.in-Some-call_of in
    let n : call_of (action p a (thing_object t)) ≡ Some (k.receiver, k.method.0) =
    ap call_of d.gives ∙ sym (c.call_of.ensures (thing_object t) (now_args t.work.next) (now_names t.work.next) (now_choices t.work.next)) ∙ ap called k.is in
    same_call p (configuration s) a (thing_object t) x (Some (k.receiver, k.method.0)) (running_doing p s.objects (configuration s).messages a t c.in-Some-acting.act d) n e

pub returns-clause-least : goal.returns-clause-least
returns-clause-least c =
    let s = c.args.self.now.state in
    let p = program_of s.program.now in
    least_waits p (configuration s) c.args.from c.in-Some.object (subst (λ (r : Option ℕ). LeastWaits p (configuration s) c.args.from r) c.in-Some.is c.least_waiting.ensures)
