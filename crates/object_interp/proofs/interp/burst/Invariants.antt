use Rattle.std.proofs.Common.{◌≡◌}
use Rattle.node_heap.specs.Heaps.{object_at}
use Rattle.object_interp.specs.Tops.{code_in}
use Rattle.object_interp.proofs.BurstSteps.{Bursting}
use Rattle.object_interp.proofs.interp.burst.Given as goal

abbrev pub invariant-loop-done : goal.invariant-loop-done
invariant-loop-done l = Bursting l.unit l.initial.heap l.slot l.quantum l.done l.heap × (l.code ≡ code_in l.unit (object_at l.heap l.slot))
