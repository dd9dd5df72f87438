-- The invariant of the fields of a machine, and the machine that contracts see of them.
use Rattle.std.specs.Prelude.{ℕ, ◌≡◌, ◌≤◌, ◌*◌, List, Some, length, slice_get}
use Rattle.run_types.specs.declared.types.Placement.{Placement}
use Rattle.code_semantics.specs.declared.unit.Unit.{Unit as Code}
use Rattle.mesh_of_code.specs.Coded.{coded}
use Rattle.node_semantics.specs.Machine.{empty_node, is_machine_quiet}
use Rattle.node_state.specs.NodeOf.{NodeOf}
use Rattle.machine_network.specs.LinkWires.{wires_in}
use Rattle.machine_network.specs.MachineOn.{machine_on}
use Rattle.pool_machine.specs.MachineOf.{MachineOf}
use Rattle.pool_machine.specs.Parts.{EachCount, IsMeshOf, IsNodeOf}
use Rattle.pool_machine.specs.OnWires.{WiredMachineInvariant, EachEntered}
use Rattle.pool_machine.specs.declared.machine.Machine.TheInside.{Inside}

-- a node without objects
pub record IsEmptyNode (u : Code) (l : Placement) (i : ℕ) (n : NodeOf) : Type 0 where
  pub node : IsNodeOf u l i n
  pub state : n.state ≡ empty_node (coded u)

-- `size` nodes without objects, numbered from 0
pub record AreEmpty (u : Code) (l : Placement) (size : ℕ) (nodes : List NodeOf) : Type 0 where
  pub count : length nodes ≡ size
  pub each : (i : ℕ) (n : NodeOf) → slice_get nodes i ≡ Some n → IsEmptyNode u l i n

abbrev pub machine_view : Inside → MachineOf
machine_view m = record {
  unit = m.plan.unit.now;
  placement = m.plan.placement.now;
  nodes = m.nodes.items;
  links = m.network.links.links;
  wires = wires_in m.network.wires;
  done = m.done;
  moves = m.moves;
  transitions = m.transitions;
}

pub record MachineInvariant (m : Inside) : Type 0 where
  pub mesh : IsMeshOf m.plan.placement.now m.mesh
  pub table : m.plan.table ≡ m.plan.placement.now
  pub kept : WiredMachineInvariant m.plan.unit.now m.plan.placement.now m.nodes.items m.network.links (wires_in m.network.wires)
  pub quiet : m.quiet ≡ is_machine_quiet (coded m.plan.unit.now) (machine_on m.nodes.items m.network.links.links (wires_in m.network.wires))
  -- no node has made more objects of a class than there were events
  pub counts : EachCount (λ k. k ≤ m.done) m.nodes.items
  -- no more packets have entered a wire than there were events
  pub entered : EachEntered (λ k. k ≤ m.done) (wires_in m.network.wires) m.network.links.links
  pub moves : m.moves ≤ m.done
  -- an event makes fewer than 2 ^ 32 transitions
  pub transitions : m.transitions ≤ m.done * 4294967295
