use Rattle.pool_machine.specs.MachineInvariant.{AreEmpty}
use Rattle.pool_machine.proofs.machine.all_nodes.Given as goal

abbrev pub invariant-loop-id : goal.invariant-loop-id
invariant-loop-id l = AreEmpty l.unit l.placement l.id l.nodes.items
