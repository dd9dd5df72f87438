-- The lemmas that other crates cite: on lists and links after a change, on the entries of an object, and on placed
-- machines over any language of objects and any kept property.
pub use Rattle.mesh_semantics.proofs.ObjectChange.{runs, each_without, each_head, running_gives, there_put}
pub use Rattle.mesh_semantics.proofs.OwnedTraffic.{no_part, one_part, is_call_of, moved_own, moved_some, taken_own, taken_some, moved}
pub use Rattle.mesh_semantics.proofs.LinksAndArrivals.{under-append, on_put_same, on_put_other, on_moved_same, on_moved_other, Same, Is, Not, same}
pub use Rattle.mesh_semantics.proofs.MessageRemoval.{under_taken, under_other, none_before, earliest}
pub use Rattle.mesh_semantics.proofs.PlacementFit.{fit_of}
pub use Rattle.mesh_semantics.proofs.FifoTraffic.{in_order}
pub use Rattle.mesh_semantics.proofs.SoundStart.{placed_start_sound, with_wires}
pub use Rattle.mesh_semantics.proofs.EventSoundness.{turn_there, act_kept, act_answers, record_shows, turn_is}
pub use Rattle.mesh_semantics.proofs.MadeLines.{lines_made, made_as}
pub use Rattle.mesh_semantics.proofs.AnsweredPosts.{each_answers_post, each_answers_post_on_wires}
pub use Rattle.mesh_semantics.proofs.WireLaws.{Wanted, wanted_is, IsOfWire, TellsOfWire, tells_of_wire, facts_empty, happen_facts, happened_facts, happened_put, act_facts, take_facts, enter_facts, act_put, take_put, next_is_head, length_behind}
pub use Rattle.mesh_semantics.proofs.LinkEntries.{Behind, PutsBehind, turn_enters, move_enters}
pub use Rattle.mesh_semantics.proofs.EventWireInvariant.{at_same, at_other, enter_at, stale_handed, next_handed, act_handed, KeepsOn, act_keeps_wires, record_keeps_wires, no_wires_kept, acknowledged_at, quiet_acknowledged, enterings}
pub use Rattle.mesh_semantics.proofs.QuietIsFinal.{no_transition}
pub use Rattle.mesh_semantics.proofs.Idle.{idle_turn, idle_link, idle_wire, turn_idles, link_idles, wire_idles}
pub use Rattle.mesh_semantics.proofs.Cycles.{every_cycle, is_cycle, every_cycle_among, is_cycle_among, chased, Begun, Is as CyclesIs}
pub use Rattle.mesh_semantics.proofs.EventSimulation.{there, found, move_same}
pub use Rattle.mesh_semantics.proofs.SameActs.{act_same, quiet_same}
pub use Rattle.mesh_semantics.proofs.SameRecords.{records_agree}
pub use Rattle.mesh_semantics.proofs.SameStandings.{standing_same, cycles_same}
pub use Rattle.mesh_semantics.proofs.LawfulnessTransfer.{lawful_across}
pub use Rattle.mesh_semantics.proofs.SoundnessTransfer.{sound_across}
pub use Rattle.mesh_semantics.proofs.KeptWireSimulation.{enter_same, coming_same, take_same, send_same, hear_same, act_same as kept_act_same, kept_carries, empty_carries, longer_carries, coming_carries, take_carries, send_carries, hear_carries, act_carries, kept_result}
pub use Rattle.mesh_semantics.proofs.MessageMaps.{messages_same, messages_other}
pub use Rattle.mesh_semantics.proofs.ObjectAndDelayChange.{sorted_put}
pub use Rattle.mesh_semantics.proofs.Fit.{Fit}
