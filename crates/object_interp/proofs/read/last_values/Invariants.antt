-- The values up to here, followed by the rest, are all values.
use Rattle.std.proofs.Common.{◌≡◌, ◌-◌, [], ◌++◌, length}
use Rattle.run_types.specs.Operands.{taken}
use Rattle.node_heap.specs.Heaps.{top_at}
use Rattle.object_interp.proofs.read.last_values.Given as goal

abbrev pub invariant-loop-done : goal.invariant-loop-done
invariant-loop-done l =
    (l.args ++ taken (l.count - l.done) (top_at l.heap l.slot).operands [] ≡ taken l.count (top_at l.heap l.slot).operands [])
    × (length l.args ≡ l.done)
