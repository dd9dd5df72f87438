use Rattle.std.proofs.Common.{refl, subst}
use Rattle.pool_search.specs.Entries.{entries, searched}
use Rattle.pool_search.specs.Leads.{IsEdge, IsLead}
use Rattle.pool_search.proofs.explored.Explored.is_beside.Goals as goal

pub returns-in-Ok-Nowhere-clause-beside : goal.returns-in-Ok-Nowhere-clause-beside
returns-in-Ok-Nowhere-clause-beside c = λ e g.
    subst (IsLead (searched c.args.self.now) (entries c.args.self.now) e c.args.label.now c.lead.new.made) c.in-Ok-Nowhere.field-0-is (c.in-Ok-Nowhere.ensures.led e g)

pub returns-then-is_left-clause-beside : goal.returns-then-is_left-clause-beside
returns-then-is_left-clause-beside c = λ e g.
    let made = c.lead.new.made in
    let to = c.in-Ok-To.to in
    let edge : IsEdge (searched c.args.self.now) (entries c.args.self.now) e.next e.configuration c.args.label.now made to =
    subst (IsLead (searched c.args.self.now) (entries c.args.self.now) e c.args.label.now made) c.in-Ok-To.field-0-is (c.in-Ok-To.ensures.led e g)
    in
    let left = c.is_left.ensures c.if-is_left.true in
    (record { made = made; to = to; edge = edge; beside = left.0; waits = left.1 }, refl)
