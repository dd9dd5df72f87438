use Rattle.std.proofs.Common.{◌+◌, ◌/◌, ◌%◌, ◌∙◌, [], ap, sym, subst}
use Rattle.run_types.specs.Paths.{toward}
use Rattle.table_routing.specs.Tables.{AreNexts, size, with_routes}
use Rattle.table_routing.proofs.Places.{one_more}
use Rattle.table_routing.proofs.routes.ways_of.Goals as goal

pub loop-place-preserved : goal.loop-place-preserved
loop-place-preserved c =
    let l = with_routes c.args.placement.now [] in
    let p = c.loop-place in
    subst (AreNexts l (p.place + 1)) (sym c.in-Ok.ensures.items) (one_more l p.place c.way-next.result p.nexts.items p.invariant (λ apart. c.way-next.ensures apart ∙ ap (λ w. toward w (p.place / size l) (p.place % size l)) c.requires.width))
