use Rattle.std.proofs.Common.{◌≡◌, ◌<◌, ℕ, false, is_some}
use Rattle.std.specs.Prelude.{Some, slice_get}
use Rattle.std.specs.List.{list_any}
use Rattle.mesh_of_code.specs.Coded.{Placed}
use Rattle.node_semantics.specs.Node.{Slot}
use Rattle.node_state.specs.NodeOf.{NodeOf}
use Rattle.pool_machine.proofs.report.has_faulted.Given as goal

abbrev pub invariant-loop-node : goal.invariant-loop-node
invariant-loop-node l = (i : ℕ) → i < l.node-index → (n : NodeOf) → slice_get l.nodes i ≡ Some n → list_any (λ (s : Slot Placed). is_some s.state.fault) n.state.slots ≡ false
