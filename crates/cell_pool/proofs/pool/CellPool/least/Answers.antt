use Rattle.std.proofs.Common.{subst}
use Rattle.std.specs.Fn.{FnReturnsAt}
use Rattle.cell_pool.specs.Lists.{Pool, list_of, IsLeast}
use Rattle.cell_pool.proofs.pool.CellPool.least.Goals as goal

pub returns : goal.returns
returns g c = subst (λ (v : Pool _). IsLeast (FnReturnsAt g.F.Fn c.args.key) (list_of v c.args.queue) c.least.result) c.self.view_is c.least.ensures
