use Rattle.std.proofs.Common.{ap}
use Rattle.wire_link.proofs.Rings.{put}
use Rattle.wire_link.proofs.ring.Ring.push.Goals as goal

pub returns : goal.returns
returns g c =
    let r = c.self.inside in let i = c.self.invariant in
    put r.first r.count _ r.cells c.args.self.now.items i.0 i.1 i.2 (ap (λ v. v.items) c.self.view_is) c.wrapped-place.result c.args.item c.requires c.wrapped-place.ensures
