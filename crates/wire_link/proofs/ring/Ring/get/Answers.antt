use Rattle.std.proofs.Common.{ap, arith}
use Rattle.wire_link.proofs.Rings.{found, past}
use Rattle.wire_link.proofs.ring.Ring.get.Goals as goal

pub returns-then-place-self : goal.returns-then-place-self
returns-then-place-self g c =
    let r = c.self.inside in let i = c.self.invariant in
    found r.first r.count _ r.cells c.args.self.now.items i.0 i.1 i.2 (ap (λ v. v.items) c.self.view_is) c.args.place c.wrapped.result _ c.if-place-self.true c.wrapped.ensures

pub returns-else-place-self : goal.returns-else-place-self
returns-else-place-self g c =
    let r = c.self.inside in let i = c.self.invariant in let e = c.if-place-self.false in
    past r.first r.count _ r.cells c.args.self.now.items i.0 i.1 i.2 (ap (λ v. v.items) c.self.view_is) c.args.place (grind (arith, e))
