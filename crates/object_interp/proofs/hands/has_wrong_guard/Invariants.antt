-- The test holds of one guard exactly if it holds of one of the rest.
use Rattle.std.proofs.Common.{◌≡◌, ◌-◌, []}
use Rattle.std.specs.List.{list_any}
use Rattle.run_types.specs.Values.{not_bool}
use Rattle.run_types.specs.Operands.{taken}
use Rattle.node_heap.specs.Heaps.{top_at}
use Rattle.object_interp.proofs.hands.has_wrong_guard.Given as goal

abbrev pub invariant-loop-done : goal.invariant-loop-done
invariant-loop-done l =
    list_any not_bool (taken l.count (top_at l.heap l.slot).operands []) ≡ list_any not_bool (taken (l.count - l.done) (top_at l.heap l.slot).operands [])
