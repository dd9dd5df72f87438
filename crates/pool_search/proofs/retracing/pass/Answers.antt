use Rattle.std.proofs.Common.{subst}
use Rattle.visited_set.specs.Courses.{course_of}
use Rattle.pool_search.specs.Steps.{HasMade}
use Rattle.pool_search.proofs.StepperRuns.{shown_after}
use Rattle.pool_search.proofs.retracing.pass.Goals as goal

pub returns-in-Ok-true : goal.returns-in-Ok-true
returns-in-Ok-true c = λ told.
    let middle = c.make.new.plain in
    let made = subst (HasMade c.args.plain.now middle c.args.label.now) c.in-Ok-true.field-0-test c.in-Ok-true.ensures in
    shown_after (course_of c.args.keeps) c.args.plain.now middle c.settle_after.new.plain c.args.label.now c.args.shown.now c.settle_after.new.shown made (c.settle_after.ensures told)
