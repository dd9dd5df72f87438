-- The state of a node after the value of a request arrived.
use Rattle.std.specs.Prelude.{ℕ}
use Rattle.run_types.specs.declared.types.Value.{Value}
use Rattle.code_semantics.specs.declared.unit.Unit.{Unit as Code}
use Rattle.mesh_of_code.specs.Coded.{Placed, coded}
use Rattle.node_semantics.specs.Node.{NodeState, settled}

-- the state after the value of the request with this number arrived
abbrev pub settled_number : Code → ℕ → Value → NodeState Placed → NodeState Placed
settled_number u number v x = record x { slots = settled (coded u) number v x.slots }
