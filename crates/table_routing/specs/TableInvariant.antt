-- The invariant of the fields of a routing table.
use Rattle.table_routing.specs.RoutesOf.{AreRoutesOf, routes_in}
use Rattle.table_routing.specs.declared.table.Table.TheInside.{Inside}

abbrev pub IsTable : Inside → Type 0
IsTable t = AreRoutesOf t.placement.now (routes_in t.routes)
