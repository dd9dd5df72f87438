use Rattle.std.proofs.Common.{suc, ◌+◌, ◌<◌, [], length, get_or, add-one, arith, sym, subst, refl}
use Rattle.std.specs.Fn.{FnReturnsAt}
use Rattle.cell_pool.specs.Lists.{IsLeastOf}
use Rattle.cell_pool.specs.Pools.{lists_of}
use Rattle.std.proofs.lemmas.Fn.{says_at}
use Rattle.cell_pool.proofs.LinearScan.{least_more}
use Rattle.cell_pool.proofs.Moves.{queue_at, list_length, at_first, at_cell, at_next, at_value}
use Rattle.cell_pool.proofs.parts.Parts.least.Goals as goal

pub loop-index-init : goal.loop-index-init
loop-index-init g c = (λ orders h some. at_first c.args.self.now orders 0 h c.args.queue c.requires.pool.1 c.index-head.result.now c.index-head.ensures some, λ k x below. absurd (omega arith))

pub get-cell-requires : goal.get-cell-requires
get-cell-requires g c =
    let p = c.args.self.now in let w = c.requires.pool.0 in let q = c.index-head.result.now in
    let below : c.loop-index.index < length (get_or w.0 (suc c.args.queue) []) = omega (arith, c.loop-index-test.true, (queue_at p w.0 0 w.1 c.args.queue c.requires.pool.1 q c.index-head.ensures).0) in
    at_cell p w.0 0 w.1 c.args.queue c.requires.pool.1 c.loop-index.index c.loop-index.place.ptr (c.loop-index.invariant.0 w.0 w.1 below) below

pub loop-index-preserved : goal.loop-index-preserved
loop-index-preserved g c =
    let p = c.args.self.now in let w = c.requires.pool.0 in let q = c.index-head.result.now in let x = c.get-cell.result.now.value in
    let below : c.loop-index.index < length (get_or w.0 (suc c.args.queue) []) = omega (arith, c.loop-index-test.true, (queue_at p w.0 0 w.1 c.args.queue c.requires.pool.1 q c.index-head.ensures).0) in
    let here = at_value p w.0 0 w.1 c.args.queue c.requires.pool.1 c.loop-index.index c.loop-index.place.ptr (c.loop-index.invariant.0 w.0 w.1 below) c.get-cell.result.now c.get-cell.ensures below in (
      λ orders h some.
          let more : suc c.loop-index.index < length (get_or orders (suc c.args.queue) []) = omega (arith, some) in
          rw (add-one c.loop-index.index)
          (at_next p orders 0 h c.args.queue c.requires.pool.1 c.loop-index.index c.loop-index.place.ptr (c.loop-index.invariant.0 orders h (omega (arith, more))) c.get-cell.result.now c.get-cell.ensures more),
      subst (λ r. IsLeastOf (FnReturnsAt g.F.Fn c.args.key) (get_or (lists_of p) c.args.queue []) (c.loop-index.index + 1) r) (sym c.lesser-least.ensures)
          (least_more (FnReturnsAt g.F.Fn c.args.key) (get_or (lists_of p) c.args.queue []) c.loop-index.index x here c.loop-index.least _ (says_at g.F.Fn c.key.ensures refl) c.loop-index.invariant.1),
    )

pub returns : goal.returns
returns g c =
    let p = c.args.self.now in let w = c.requires.pool.0 in let q = c.index-head.result.now in
    subst (λ n. IsLeastOf (FnReturnsAt g.F.Fn c.args.key) (get_or (lists_of p) c.args.queue []) n c.loop-index.least)
    (omega (arith, c.loop-index-test.false, c.loop-index.auto.index-end, list_length p w.0 0 w.1 c.args.queue c.requires.pool.1, (queue_at p w.0 0 w.1 c.args.queue c.requires.pool.1 q c.index-head.ensures).0)) c.loop-index.invariant.1
