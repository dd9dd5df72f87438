use Rattle.std.proofs.Common.{inr, ap, Ok}
use Rattle.visited_set.specs.Courses.{course_of}
use Rattle.pool_search.specs.Entries.{entries, searched}
use Rattle.pool_search.proofs.EntryExpansion.{leads_by}
use Rattle.pool_search.proofs.explored.Explored.try_label.Goals as goal

pub returns-in-Ok-Led-clause-tried : goal.returns-in-Ok-Led-clause-tried
returns-in-Ok-Led-clause-tried c = λ tried asked e g.
    inr (leads_by (searched c.args.self.now) (course_of c.args.scope.keeps) (entries c.follow.new.self) e.next e.items e.configuration c.args.label.now c.in-Ok-Led.to
    (c.in-Ok-Led.ensures.led c.in-Ok-Led.to (ap Ok c.in-Ok-Led.field-0-is) e g))
