use Rattle.std.proofs.Common.{◌≡◌, take, length, arith}
use Rattle.std.proofs.lemmas.List.{take_more, length-take-le}
use Rattle.type_check.proofs.IndexLaws.{place_of_push}
use Rattle.type_check.proofs.index.places_of.Goals as goal

pub loop-i-preserved : goal.loop-i-preserved
loop-i-preserved g c = λ n.
    let xs = c.args.list.now in
    let x = c.index-list-i.result in
    let at = c.index-list-i.is in
    let more = take_more xs c.loop-i.i x (omega arith) in
    let push = place_of_push g.T.HasName.name (take c.loop-i.i xs) x n in
    let count : length (take c.loop-i.i xs) ≡ c.loop-i.i = length-take-le c.loop-i.i xs (omega arith) in
    let kept = c.loop-i.invariant n in
    let called = c.name.ensures in
    let added = c.in_ok-add.ensures n in
    cc
