use Rattle.message_queue.proofs.LeastStamps.{first_here, first_other, first_none}
use Rattle.message_queue.proofs.index.stamp_of.Goals as goal

pub returns-then-place-method : goal.returns-then-place-method
returns-then-place-method c = first_here c.args.index.now c.args.method.0 _ _ c.in-Some.place.now (c.range.ensures.in_range tt) c.in-Some.ensures.steps c.if-place-method.true

pub returns-else-place-method : goal.returns-else-place-method
returns-else-place-method c = first_other c.args.index.now c.args.method.0 _ _ c.in-Some.place.now (c.range.ensures.in_range tt) c.in-Some.ensures.steps c.if-place-method.false

pub returns-in-None : goal.returns-in-None
returns-in-None c = first_none c.args.index.now c.args.method.0 _ (c.range.ensures.in_range tt) c.in-None.ensures.steps.0
