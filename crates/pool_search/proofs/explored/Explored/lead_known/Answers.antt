use Rattle.std.proofs.Common.{◌≡◌, [], Some, get_or, subst, ap, ◌∙◌, slice_get}
use Rattle.std.specs.Prelude.{IfSome}
use Rattle.pool_relation.specs.Configuration.{Configuration}
use Rattle.reachability.specs.Search.{after as after_label}
use Rattle.search_laws.specs.Tried.{states_only}
use Rattle.pool_search.specs.Entries.{entries, lists, searched}
use Rattle.pool_search.specs.Leads.{HasMovedTo}
use Rattle.visited_set.specs.LedBy.{IsLedBy}
use Rattle.visited_set.specs.VisitedConfigurations.{entry}
use Rattle.pool_search.proofs.MovedObjects.{moved_to}
use Rattle.pool_search.proofs.explored.Explored.lead_known.Goals as goal

pub returns-in-Ok-At-Seen-clause-led : goal.returns-in-Ok-At-Seen-clause-led
returns-in-Ok-At-Seen-clause-led c = λ i told e there.
    let p = searched c.args.self.now in
    let es = entries c.args.self.now in
    let label = c.args.label.now in
    let number = c.in-Ok-At-Seen.to in
    let is : number ≡ i = cc in
    let moved = c.lead.new.moved.items in
    let v = get_or (lists c.args.self.now) c.written-written.result [] in
    let seen = c.in-Ok-At-Seen.ensures.seen number (cc) in
    let led : (to : Configuration) × IsLedBy p states_only e.configuration label to moved × (slice_get es number ≡ Some (entry c.in-Some.after v to)) =
    subst (λ o. IfSome o (λ x. (to : Configuration) × IsLedBy p states_only x.configuration label to moved × (slice_get es number ≡ Some (entry c.in-Some.after v to)))) there seen.1
    in
    let name : c.next_name.result ≡ e.next = subst (λ o. IfSome o (λ x. c.next_name.result ≡ x.next)) there c.next_name.ensures in
    subst (HasMovedTo p es e.next e.configuration label moved) is
    (moved_to p es e.next c.in-Some.after e.configuration label moved number v led.0 led.1 led.2 (c.in-Some.ensures ∙ ap (λ n. after_label n label) name))
