-- The routes of a placement, and those that a table holds.
use Rattle.std.specs.Prelude.{◌≡◌, ◌*◌, None}
use Rattle.run_types.specs.declared.types.Placement.{Placement}
use Rattle.run_types.specs.Routes.{without_route}
use Rattle.run_types.specs.RoutedPlacements.{IsRouted}
use Rattle.table_routing.specs.Tables.{AreNexts, size}
use Rattle.table_routing.specs.declared.routes.Routes.{Routes}
use Rattle.table_routing.specs.declared.held.Held.{Held}
use Rattle.table_routing.specs.declared.held.Held.TheVariants as H

-- the mesh of the placement and all next nodes; each pair of nodes has a route
pub record AreRoutesOf (l : Placement) (r : Routes) : Type 0 where
  pub width : r.mesh.width ≡ l.width
  pub height : r.mesh.height ≡ l.height
  pub nexts : AreNexts l (size l * size l) r.nexts.items
  pub routed : IsRouted l
  pub paths : without_route l ≡ None

abbrev pub routes_in : Held → Routes
routes_in (H.Own r) = r
routes_in (H.Lent r) = r.now
