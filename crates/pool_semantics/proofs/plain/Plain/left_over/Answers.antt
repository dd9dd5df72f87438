use Rattle.pool_syntax.specs.TreeOf.{program_of}
use Rattle.reachability.specs.Search.{AnObject}
use Rattle.pool_semantics.specs.Plains.{configuration}
use Rattle.pool_semantics.proofs.WaitingObjects.{nothing_left, message_left, nothing_posted, some_posted}
use Rattle.pool_semantics.proofs.SoundSteps.{typed_now}
use Rattle.pool_semantics.proofs.plain.Plain.left_over.Goals as goal

pub returns-then-any_stays-clause-some : goal.returns-then-any_stays-clause-some
returns-then-any_stays-clause-some c = λ _. let t = c.any_stays.ensures.some c.if-any_stays.true in AnObject t.0 t.1

pub returns-clause-some : goal.returns-clause-some
returns-clause-some c = λ e.
    let s = c.args.self.now.state in
    let p = program_of s.program.now in
    let t = typed_now c.args.self.now.spent p (configuration s) c.args.self.now.typed c.requires in
    message_left p (configuration s) t.no_empty (some_posted s.messages.entries c.is_empty.result c.is_empty.ensures e)

pub returns-clause-none : goal.returns-clause-none
returns-clause-none c = λ e.
    let s = c.args.self.now.state in
    nothing_left (program_of s.program.now) (configuration s) (c.any_stays.ensures.none c.if-any_stays.false) (nothing_posted s.messages.entries c.is_empty.result c.is_empty.ensures e)
