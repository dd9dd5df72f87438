use Rattle.std.proofs.Common.{◌<◌, ◌∙◌, ap, length, Ok, arith}
use Rattle.pool_search.specs.Entries.{entries, searched}
use Rattle.pool_search.proofs.WaiterLaws.{one_more_stays}
use Rattle.pool_search.proofs.explored.Explored.stays.Goals as goal

pub loop-waiter-preserved : goal.loop-waiter-preserved
loop-waiter-preserved c =
    let l = c.loop-waiter in
    let items = c.as_slice-waiter-items.result.now in
    let inside : l.waiter-index < length items = omega (arith, c.loop-waiter-test.true, l.auto.waiter-index-end) in
    record {
      same = c.stays_at.ensures.same ∙ l.invariant.same;
      program = c.stays_at.ensures.program ∙ l.invariant.program;
      so_far = λ rest.
          one_more_stays (searched c.args.self.now) (searched l.self) (entries c.args.self.now) (entries l.self) c.args.suspect.now.waiters.now.list.items items c.args.suspect.now.object l.waiter-index _ l.invariant.program
          l.invariant.same inside (c.in-Ok-true.ensures.stays (ap Ok c.in-Ok-true.field-0-test)) l.invariant.so_far rest;
    }
