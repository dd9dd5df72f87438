use Rattle.std.proofs.Common.{◌≡◌, ◌-◌, ◌<◌, List, suc, length, sym, subst, arith}
use Rattle.run_types.specs.declared.types.Route.{Route}
use Rattle.run_types.specs.RoutedPlacements.{AreRoutes}
use Rattle.table_routing.proofs.RouteInsertion.{inside, put_at}
use Rattle.table_routing.proofs.routes.put_routes.Goals as goal

abbrev blank : Route
blank = record { at = 0; goal = 0; next = 0 }

pub put_route-requires-clause-at : goal.put_route-requires-clause-at
put_route-requires-clause-at c =
    let l = c.args.placement.now in
    let rs = c.items-routes.result.now in
    let few : c.loop-i.i - 1 < length rs = omega (arith, c.loop-i.auto.i, c.loop-i-test.true) in
    (inside l rs (c.loop-i.i - 1) blank (subst (AreRoutes l) (sym c.items-routes.ensures) c.requires.routed.routes) few).0

pub put_route-requires-clause-goal : goal.put_route-requires-clause-goal
put_route-requires-clause-goal c =
    let l = c.args.placement.now in
    let rs = c.items-routes.result.now in
    let few : c.loop-i.i - 1 < length rs = omega (arith, c.loop-i.auto.i, c.loop-i-test.true) in
    (inside l rs (c.loop-i.i - 1) blank (subst (AreRoutes l) (sym c.items-routes.ensures) c.requires.routed.routes) few).1

pub loop-i-preserved : goal.loop-i-preserved
loop-i-preserved c =
    let l = c.args.placement.now in
    let rs = c.items-routes.result.now in
    let i = c.loop-i.i in
    let few : i - 1 < length rs = omega (arith, c.loop-i.auto.i, c.loop-i-test.true) in
    let inside_all : i - 1 < length l.routes = subst (λ (ks : List Route). i - 1 < length ks) c.items-routes.ensures few in
    let one : i ≡ suc (i - 1) = omega (arith, c.loop-i-test.true) in
    put_at l l.routes rs i (i - 1) blank c.loop-i.nexts.items c.put_route.new.nexts.items c.items-routes.ensures c.requires.routed.routes one inside_all c.loop-i.invariant c.put_route.ensures
