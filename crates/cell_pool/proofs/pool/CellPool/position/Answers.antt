use Rattle.std.proofs.Common.{subst}
use Rattle.std.specs.Fn.{FnReturnsAt}
use Rattle.cell_pool.specs.Lists.{Pool, list_of, IsFirst}
use Rattle.cell_pool.proofs.pool.CellPool.position.Goals as goal

pub returns : goal.returns
returns g c = subst (λ (v : Pool _). IsFirst (FnReturnsAt g.F.Fn c.args.test) (list_of v c.args.queue) c.position.result) c.self.view_is c.position.ensures
