use Rattle.std.proofs.Common.{List, subst, sym}
use Rattle.run_types.specs.declared.types.Label.{Label}
use Rattle.visited_set.specs.Courses.{course_of}
use Rattle.pool_search.specs.Steps.{HasSettled, HasStepped}
use Rattle.pool_search.proofs.StepperRuns.{settled_more, settled_none, settled_still}
use Rattle.pool_search.proofs.settling.settle_shown.Goals as goal

pub loop-made-init : goal.loop-made-init
loop-made-init c = settled_none (course_of c.args.keeps) c.args.plain.now c.args.shown.now c.requires

pub settle_once-requires : goal.settle_once-requires
settle_once-requires c = c.loop-made.invariant.ran.fresh

pub loop-made-preserved : goal.loop-made-preserved
loop-made-preserved c =
    let l = c.loop-made in
    let k = course_of c.args.keeps in
    let step = subst (HasStepped k l.plain c.settle_once.new.plain) c.in-Ok-Some.field-0-is c.in-Ok-Some.ensures in
    subst (λ (ls : List Label). HasSettled k c.args.plain.now c.settle_once.new.plain c.args.shown.now ls) (sym c.in_ok-push-in-Ok-Some.ensures.ok)
    (settled_more k c.args.plain.now l.plain c.settle_once.new.plain c.args.shown.now l.shown c.in-Ok-Some.label l.invariant step.0 step.1)

pub returns-in-Ok-None : goal.returns-in-Ok-None
returns-in-Ok-None c = λ _.
    let l = c.loop-made in
    let k = course_of c.args.keeps in
    settled_still k c.args.plain.now l.plain c.settle_once.new.plain c.args.shown.now l.shown l.invariant (subst (HasStepped k l.plain c.settle_once.new.plain) c.in-Ok-None.field-0-is c.in-Ok-None.ensures)
