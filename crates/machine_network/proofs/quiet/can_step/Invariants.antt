use Rattle.std.proofs.Common.{◌≡◌, ◌<◌, ℕ, false, is_some}
use Rattle.std.specs.Prelude.{Some, slice_get}
use Rattle.mesh_semantics.specs.Act.{first_of}
use Rattle.mesh_of_code.specs.Coded.{coded}
use Rattle.node_semantics.specs.Node.{ready_slots}
use Rattle.node_state.specs.NodeOf.{NodeOf}
use Rattle.machine_network.proofs.quiet.can_step.Given as goal

abbrev pub invariant-loop-node : goal.invariant-loop-node
invariant-loop-node l = (i : ℕ) → i < l.node-index → (n : NodeOf) → slice_get l.nodes i ≡ Some n → is_some (first_of (ready_slots (coded l.unit) n.id n.state)) ≡ false
