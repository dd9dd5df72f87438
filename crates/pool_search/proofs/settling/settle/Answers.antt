use Rattle.std.proofs.Common.{subst}
use Rattle.visited_set.specs.Courses.{course_of}
use Rattle.pool_search.specs.Steps.{HasStepped}
use Rattle.pool_search.proofs.StepperRuns.{followed_by, followed_none, followed_still}
use Rattle.pool_search.proofs.settling.settle.Goals as goal

pub loop-made-init : goal.loop-made-init
loop-made-init c = followed_none (course_of c.args.keeps) c.args.plain.now c.requires

pub settle_once-requires : goal.settle_once-requires
settle_once-requires c = c.loop-made.invariant.fresh

pub loop-made-preserved : goal.loop-made-preserved
loop-made-preserved c =
    let l = c.loop-made in
    let k = course_of c.args.keeps in
    let step = subst (HasStepped k l.plain c.settle_once.new.plain) c.in-Ok-Some.field-0-is c.in-Ok-Some.ensures in
    followed_by k c.args.plain.now l.plain c.settle_once.new.plain c.in-Ok-Some.label l.invariant step.0 step.1

pub returns-in-Ok-None : goal.returns-in-Ok-None
returns-in-Ok-None c = λ _.
    let l = c.loop-made in
    let k = course_of c.args.keeps in
    followed_still k c.args.plain.now l.plain c.settle_once.new.plain l.invariant (subst (HasStepped k l.plain c.settle_once.new.plain) c.in-Ok-None.field-0-is c.in-Ok-None.ensures)
