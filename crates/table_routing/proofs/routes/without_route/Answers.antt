use Rattle.std.proofs.Common.{sym, ◌∙◌}
use Rattle.std.specs.List.{range_with_len}
use Rattle.table_routing.specs.Tables.{size}
use Rattle.table_routing.proofs.MissingRoute.{found_here, none_here}
use Rattle.table_routing.proofs.routes.without_route.Goals as goal

pub returns-in-Some : goal.returns-in-Some
returns-in-Some c =
    let l = c.args.placement.now in
    sym (found_here l c.loop-from.from (size l) c.loop-from-test.true (range_with_len 0 (size l)) c.in-Some.pair (sym c.broken_to.ensures ∙ c.in-Some.is)) ∙ c.loop-from.invariant

pub loop-from-preserved : goal.loop-from-preserved
loop-from-preserved c =
    let l = c.args.placement.now in
    sym (none_here l c.loop-from.from (size l) c.loop-from-test.true (range_with_len 0 (size l)) (sym c.broken_to.ensures ∙ c.in-None.is)) ∙ c.loop-from.invariant
