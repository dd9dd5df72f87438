use Rattle.std.proofs.Common.{◌≡◌, ◌+◌, ◌<◌, sym, ap, ◌∙◌, subst, arith}
use Rattle.slot_queues.specs.Lanes.{shared, IsFound, better_of}
use Rattle.slot_queues.proofs.Search.{Within, keyed_near, near_more}
use Rattle.slot_queues.proofs.lanes.Lanes.near.Goals as goal

pub loop-k-preserved : goal.loop-k-preserved
loop-k-preserved c =
    let l = c.args.self.now in let home = c.home-home.result in let k = c.loop-k.k in
    let less : home + k < shared l.cells = omega (arith, c.home-home.ensures.within, c.loop-k-test.true) in
    subst (λ r. IsFound l.pool.lists (shared l.cells) (Within home c.args.to c.args.method (k + 1)) r) (sym (c.better-best.ensures ∙ ap (better_of c.loop-k.best) c.front.ensures))
    (near_more l.pool.lists (shared l.cells) c.requires.chains home c.args.to c.args.method k c.loop-k.best less c.loop-k.invariant)

pub returns : goal.returns
returns c =
    let l = c.args.self.now in let eight : c.loop-k.k ≡ 8 = omega (arith, c.loop-k-test.false, c.loop-k.auto.k-end) in
    keyed_near l.pool.lists l.cells l.next c.home-home.result c.args.to c.args.method c.loop-k.best c.requires.near c.home-home.ensures.is
    (subst (λ n. IsFound l.pool.lists (shared l.cells) (Within c.home-home.result c.args.to c.args.method n) c.loop-k.best) eight c.loop-k.invariant)
