-- The places so far hold nil.
use Rattle.std.proofs.Common.{◌≡◌, length, take}
use Rattle.node_heap.specs.Heaps.{nils}
use Rattle.node_heap.proofs.temps.Temps.begin.Given as goal

abbrev pub invariant-loop-place : goal.invariant-loop-place
invariant-loop-place l = (take l.place l.self-inside.values ≡ nils l.place) × (length l.self-inside.values ≡ 32)
