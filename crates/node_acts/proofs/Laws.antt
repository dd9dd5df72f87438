-- The lemmas that other crates may cite: the limits of a node, and a step from the changes that it makes.
pub use Rattle.node_acts.proofs.HandKinds.{halted_rests, kind_async, kind_fault, kind_halted, kind_return, kind_send, kind_write}
pub use Rattle.node_acts.proofs.NodeLimits.{frames_add, frames_seen, frames_set, messages_add, messages_seen, some_frame, under_way_is, within_cells, within_fits, within_frames, within_heap}
pub use Rattle.node_acts.proofs.StepFromChanges.{delivered_frames, delivered_length, delivered_one, here, moved, moved_line, moved_state, moved_twice, quiet_cells, same_messages, turn_is, turned}
pub use Rattle.node_acts.proofs.PostStep.{lt_not, under_le, within_less, within_objects}
pub use Rattle.node_acts.proofs.ReturnStep.{messages_settled}
