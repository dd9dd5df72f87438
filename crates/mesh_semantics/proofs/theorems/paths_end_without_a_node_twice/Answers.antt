use Rattle.run_types.proofs.Laws.{plain_ways, routed_ways, ways_have_routes}
use Rattle.mesh_semantics.proofs.theorems.paths_end_without_a_node_twice.Goals as goal

pub returns-clause-routed : goal.returns-clause-routed
returns-clause-routed c = routed_ways

pub returns-clause-none : goal.returns-clause-none
returns-clause-none c = ways_have_routes

pub returns-clause-plain : goal.returns-clause-plain
returns-clause-plain c = plain_ways
