use Rattle.std.proofs.Common.{arith}
use Rattle.mailbox.proofs.Front.{most, total}
use Rattle.mailbox.proofs.Mailbox.count.Goals as goal

pub returns-clause-count : goal.returns-clause-count
returns-clause-count c = let i = c.self.inside in let k = c.self.invariant in omega (arith, total i.early i.behind i.free i.cells k c.args.self.now c.self.view_is, k.sum)

pub returns-clause-within : goal.returns-clause-within
returns-clause-within c =
    let i = c.self.inside in let k = c.self.invariant in let v = c.args.self.now in let w = c.self.view_is in omega (arith, total i.early i.behind i.free i.cells k v w, most i.early i.behind i.free i.cells k v w, k.sum)
