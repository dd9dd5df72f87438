-- The lemmas that other crates may cite: a node after a change of one slot, and the choices of an object.
pub use Rattle.node_state.proofs.ObjectOffers.{can_choose, choosing_kind, hand_answer, hand_new, hand_select, no_async, no_branch, no_outcome, no_return, no_send, possible_is, same_names, selecting_chooses}
pub use Rattle.node_state.proofs.Slots.{slots_length}
pub use Rattle.node_state.proofs.SlotUpdate.{below_length, got, kind_seen, slot_real, slot_view}
pub use Rattle.node_state.proofs.ServedNumbers.{length_given, length_gone_on, numbers_serving, numbers_stepped}
pub use Rattle.node_state.proofs.SmallChanges.{burst_changed, by_heap, on_ok, returned_number, served_is}
pub use Rattle.node_state.proofs.AddedObject.{settled_placed}
