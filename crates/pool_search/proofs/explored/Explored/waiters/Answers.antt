use Rattle.std.proofs.Common.{◌≡◌, ◌≤◌, subst, ap, ℕ, length, Ok, false, slice_get, arith}
use Rattle.std.specs.Prelude.{IfSome}
use Rattle.search_laws.specs.Outcomes.{Passed}
use Rattle.reachability.specs.Search.{WaitsAt}
use Rattle.pool_search.specs.Entries.{entries, searched}
use Rattle.visited_set.specs.WaiterLists.{HasWaiter}
use Rattle.pool_search.proofs.WaiterLaws.{filled_more, known_filled}
use Rattle.pool_search.proofs.explored.Explored.waiters.Goals as goal

pub loop-at-preserved : goal.loop-at-preserved
loop-at-preserved c =
    let l = c.loop-at in
    let p = searched c.args.self.now in
    let es = entries c.args.self.now in
    let ws = l.waiters.list.items in
    let vs = c.add_waiters.new.waiters.list.items in
    let entry = c.in-Ok.entry in
    let number : entry ≡ l.at = omega (arith, c.in-Ok.ensures) in
    let here : IfSome (slice_get es l.at) (λ (e : Passed). (o : ℕ) → WaitsAt p e.configuration o → HasWaiter false l.at o vs) =
    subst (λ (n : ℕ). IfSome (slice_get es l.at) (λ (e : Passed). (o : ℕ) → WaitsAt p e.configuration o → HasWaiter false n o vs)) number
    (c.in-Ok-true.ensures.all (ap Ok c.in-Ok-true.field-0-test))
    in
    let grown = c.in-Ok-true.ensures.grown in
    record {
      none_noted = c.in-Ok-true.ensures.none_noted l.invariant.none_noted;
      all = filled_more p es ws vs grown.0 l.at l.invariant.all grown.1 here;
    }

pub returns : goal.returns
returns c =
    let l = c.loop-at in
    let es = entries c.args.self.now in
    let all : length es ≤ l.at = omega (arith, c.loop-at-test.false, c.len-at-end.ensures) in
    known_filled (searched c.args.self.now) es l.waiters.list.items l.at l.invariant.none_noted all l.invariant.all
