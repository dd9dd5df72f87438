-- The parts with another object, request, error, goal and messages at one slot.
use Rattle.std.specs.Prelude.{ℕ, List, Option, slice_set}
use Rattle.run_types.specs.declared.types.Error.{Error}
use Rattle.run_types.specs.declared.frames.CodeObject.{CodeObject}
use Rattle.slot_queues.specs.declared.Message.{Message}
use Rattle.slot_queues.specs.Mail.{with_box}
use Rattle.node_heap.specs.Heaps.{put_object}
use Rattle.node_state.specs.declared.state.NodeParts.{NodeParts}

-- the parts with another object, request, error, goal and messages at one slot
abbrev pub put_all : NodeParts → ℕ → CodeObject → Option ℕ → Option Error → ℕ → List Message → NodeParts
put_all p i x request fault goal box = record p {
  heap = put_object p.heap i x;
  outstanding = slice_set p.outstanding i request;
  faults = slice_set p.faults i fault;
  goals = slice_set p.goals i goal;
  mailbox = with_box p.mailbox i box;
}
