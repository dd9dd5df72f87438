use Rattle.std.proofs.Common.{inl, inr, sym, ◌∙◌, arith}
use Rattle.visited_set.proofs.WaiterPlaces.{one_found}
use Rattle.visited_set.proofs.waiters.Waiters.goes_on_by.Goals as goal

pub returns-then-contains : goal.returns-then-contains
returns-then-contains c = λ _. record {
  waiter = c.in-Some.waiter;
  there = sym c.in-Some.ensures;
  entry = omega arith;
  by = inl (one_found c.in-Some.waiter.object c.args.moved.now (sym c.contains.ensures.value ∙ c.if-contains.true));
}

pub returns : goal.returns
returns c = λ i. record { waiter = c.in-Some.waiter; there = sym c.in-Some.ensures; entry = omega arith; by = inr (c.has.ensures i) }
