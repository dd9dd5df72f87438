-- The lemmas that other crates may cite.

-- whoever forgets the numbers of requests sees the same
pub use Rattle.code_semantics.proofs.NumberErasure.{forget_settled, forget_rest, forget_stepped, forget_given, forget_gone_on, forget_picked, forget_serving, forget_placed, forget_code_kind, forget_length, forget_at_step, forget_of}
-- each step keeps an object of the unit
pub use Rattle.code_semantics.proofs.StepInvariant.{stepped_of, given_of, gone_on_of, picked_of, serving_of, placed_is_of, made_is_of}
-- and brings it to a step instruction
pub use Rattle.code_semantics.proofs.StepInvariant.{stepped_rests, given_rests, gone_on_rests, picked_rests, serving_rests, placed_rests, made_rests}
-- the values of what it asks, and what is there for it
pub use Rattle.code_semantics.proofs.KindsWellFormed.{send_values, async_values, return_value, write_value, made_there, served_there, chosen_there, named_by_test}
-- what stands at hand in a frame
pub use Rattle.code_semantics.proofs.InstructionAtHand.{top_frame, top_instr, top_place, top_operands, top_temps, top_takes, top_exists, top_after, ret_in_method, ret_is_over, frame_instr, frame_place, frame_operands, frame_temps, frame_takes, frame_exists, frame_after}
-- how a frame is brought to a step instruction
pub use Rattle.code_semantics.proofs.InstructionAtHand.{settled_done, settled_goes_on, frame_rests, frame_goes_on}
pub use Rattle.code_semantics.proofs.SilentTermination.{settled_rests, same_some, passed_is}
pub use Rattle.code_semantics.proofs.FrameSuccessors.{reached_next, proper_code, moved, silent_of, settled_of, Follows, frame_on_top, with_missing, IsReady, ready_of, ready_rests}
-- the same under a weaker property of the values
pub use Rattle.code_semantics.proofs.PropertyWeakening.{weaker_of, fits_of, plain_any, each_any}
-- methods by their names, and lists of values
pub use Rattle.code_semantics.proofs.StepPreservation.{found_named, outcome_never, if_never, return_never, sent_never}
pub use Rattle.code_semantics.proofs.Elements.{length_dropped, length_taken, length_padded, length_set, each_below, each_dropped, each_take, each_set, each_top, each_nth, each_taken, each_padded, operated_names}
pub use Rattle.code_semantics.proofs.MadeValues.{HoldsOfItem}
