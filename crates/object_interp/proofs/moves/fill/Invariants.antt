-- The parameters up to here have their values.
use Rattle.std.proofs.Common.{◌≡◌, length, take}
use Rattle.run_types.specs.Operands.{padded}
use Rattle.node_heap.specs.Heaps.{put_top, top_at}
use Rattle.object_interp.proofs.moves.fill.Given as goal

abbrev pub invariant-loop-place : goal.invariant-loop-place
invariant-loop-place l =
    l.heap ≡ put_top l.initial.heap l.slot
    (record (top_at l.initial.heap l.slot) { temps = padded (length (top_at l.initial.heap l.slot).temps) (take l.place l.args) })
