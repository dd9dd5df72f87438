use Rattle.std.proofs.Common.{get_or, refl, arith}
use Rattle.std.proofs.lemmas.List.{drop_more}
use Rattle.pool_driver.proofs.ConvertLaws.{left_at, shows_front, shows_more}
use Rattle.pool_driver.proofs.converted.write_lines.Goals as goal

pub loop-place-preserved : goal.loop-place-preserved
loop-place-preserved g c =
    let lines = c.args.lines.now in
    let asks = c.args.asks.now in
    let place = c.loop-place.place in
    let h = c.in-Ok.ensures in
    shows_more c.args.names.now lines asks place c.index-lines-place.result (get_or asks place 0)
    (left_at lines place c.index-lines-place.result (omega arith) c.index-lines-place.is)
    (drop_more asks place 0 (omega (arith, c.requires.many)))
    _ _ (refl, refl) c.loop-place.invariant (h.whole, h.no_fault)

pub returns-in-Err-clause-cut : goal.returns-in-Err-clause-cut
returns-in-Err-clause-cut g c =
    let lines = c.args.lines.now in
    let asks = c.args.asks.now in
    let place = c.loop-place.place in
    let h = c.in-Err.ensures in
    shows_front c.args.names.now lines asks place c.index-lines-place.result (get_or asks place 0)
    (left_at lines place c.index-lines-place.result (omega arith) c.index-lines-place.is)
    (drop_more asks place 0 (omega (arith, c.requires.many)))
    _ _ (refl, refl) c.loop-place.invariant (record { front = h.front; rose = h.failed })
