-- The invariant of the fields of a heap, and the heap that contracts see of them.
use Rattle.std.specs.Prelude.{◌≡◌, ◌<◌, ◌≤◌, length}
use Rattle.std.specs.Vec.{vec_capacity}
use Rattle.node_heap.specs.declared.heap.Heap.TheInside.{Inside}
use Rattle.node_heap.specs.Heaps.{HeapOf}
use Rattle.node_heap.specs.Layout.{objects_of, IsLaid}

abbrev pub heap_of : Inside → HeapOf
heap_of h = record {
  node = h.limits.node;
  most_objects = h.limits.objects;
  most_frames = h.limits.frames;
  most_vars = h.limits.vars;
  objects = objects_of h.limits.vars h.slots.items h.frames.lists h.values.items;
}

pub record IsHeap (h : Inside) : Type 0 where
  pub node : h.limits.node < 64
  pub objects : h.limits.objects ≤ 4096
  pub frames : h.limits.frames ≤ 16384
  pub vars : h.limits.vars ≤ 64
  -- the allocated room
  pub slots : h.limits.objects ≤ vec_capacity h.slots
  pub queues : length h.frames.lists ≡ h.limits.objects
  pub cells : h.frames.cells ≡ h.limits.frames
  pub laid : IsLaid h.limits.vars h.slots.items h.frames.lists h.values.items
