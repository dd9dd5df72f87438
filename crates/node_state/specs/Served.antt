-- A node after the object of a slot accepted a message.
use Rattle.std.specs.Prelude.{◌≡◌, ℕ, Option, Some, slice_get, remove}
use Rattle.run_types.specs.declared.frames.CodeObject.{CodeObject}
use Rattle.code_semantics.specs.declared.unit.Unit.{Unit as Code}
use Rattle.code_semantics.specs.Step.{code_serving}
use Rattle.code_semantics.specs.Forget.{forget}
use Rattle.node_heap.specs.Heaps.{object_at}
use Rattle.slot_queues.specs.declared.Message.{Message}
use Rattle.slot_queues.specs.Mail.{box_of}
use Rattle.node_state.specs.declared.state.NodeParts.{NodeParts}
use Rattle.node_state.specs.Views.{arrivals_of, number_by, slot_at}
use Rattle.node_state.specs.Changes.{IsChanged, serves_for_call}

-- r is the message at this place of a slot; it is no longer there, and its method runs through alternative alt
abbrev pub IsServed : Code → NodeParts → NodeParts → ℕ → ℕ → ℕ → Option Message → Type 0
IsServed u old new slot alt place r =
    (m : Message) × (r ≡ Some m) × (slice_get (box_of old.mailbox slot) place ≡ Some m)
    × ((y : CodeObject) × (code_serving u (object_at old.heap slot) alt m.method m.args (serves_for_call m.from m.call) ≡ Some y)
    × IsChanged u old new slot
    (record (slot_at old slot) {
      state = record (slot_at old slot).state { object = forget y };
      callers = number_by (serves_for_call m.from m.call) (slot_at old slot).callers;
      mailbox = arrivals_of (remove (box_of old.mailbox slot) place);
    }))
