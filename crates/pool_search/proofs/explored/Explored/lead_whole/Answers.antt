use Rattle.std.proofs.Common.{◌≡◌, subst}
use Rattle.pool_search.specs.declared.going_on.Lead.TheVariants as L
use Rattle.pool_search.specs.Entries.{entries, searched}
use Rattle.pool_search.specs.Leads.{IsLead}
use Rattle.pool_search.proofs.explored.Explored.lead_whole.Goals as goal

pub returns-clause-led : goal.returns-clause-led
returns-clause-led c = λ to told e g.
    let made = c.lead.new.made in
    let is : c.in_ok-lead.lead ≡ L.To to = cc in
    let edge = subst (IsLead (searched c.args.self.now) (entries c.args.self.now) e c.args.label.now made) is (c.in_ok-lead.ensures.led e g) in
    record { made = made; edge = edge; changed = c.in_ok-changed_by.ensures }
