use Rattle.std.proofs.Common.{◌≡◌, ◌∙◌, subst, sym}
use Rattle.pool_syntax.specs.TreeOf.{program_of}
use Rattle.stepper_objects.specs.ObjectStates.{thing_object}
use Rattle.pool_semantics.specs.Mails.{queued}
use Rattle.pool_semantics.specs.Plains.{configuration}
use Rattle.pool_semantics.specs.Moving.{Takes, IsTheOne}
use Rattle.pool_semantics.proofs.Labels.{running_doing}
use Rattle.pool_semantics.proofs.MoverSearch.{taken, offered_acted}
use Rattle.pool_semantics.proofs.plain.state.State.taker.Goals as goal

pub returns-in-Some : goal.returns-in-Some
returns-in-Some c =
    let s = c.args.self.now in
    let p = program_of s.program.now in
    let y = c.in-Some.serving.now in
    let d = c.in-Some.ensures.some in
    let ms = queued c.args.queue.now in
    subst (λ r. IsTheOne (λ b. (b ≡ c.args.receiver) × Takes p (configuration s) b ms) r) (sym c.then_some.ensures)
    (taken p (configuration s) c.args.receiver ms (thing_object y) (running_doing p s.objects (configuration s).messages c.args.receiver y c.in-Some.act d) c.any_offered.result
    (offered_acted p c.args.receiver y c.in-Some.act d.gives ms ∙ sym c.any_offered.ensures))
