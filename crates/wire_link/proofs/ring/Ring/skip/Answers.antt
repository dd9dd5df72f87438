use Rattle.std.proofs.Common.{ap}
use Rattle.wire_link.proofs.Rings.{skipped}
use Rattle.wire_link.proofs.ring.Ring.skip.Goals as goal

pub returns : goal.returns
returns g c =
    let r = c.self.inside in let i = c.self.invariant in
    skipped r.first r.count _ r.cells c.args.self.now.items i.0 i.1 i.2 (ap (λ v. v.items) c.self.view_is) c.args.count c.wrapped-self-inside.result c.requires c.wrapped-self-inside.ensures
