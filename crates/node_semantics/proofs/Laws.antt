-- The lemmas that other crates cite: on names and slots, and on machines of nodes over any language of objects and any
-- kept property.
pub use Rattle.node_semantics.proofs.NamesAndSlots.{whole_name, name_node, name_slot, slot_below, set_same, set_other, set_length, set_set, at_node, last_there, front_there}
pub use Rattle.node_semantics.proofs.NodeCounts.{objects_count, frames_count, cells_count}
pub use Rattle.node_semantics.proofs.StartsAgree.{start_agrees, start_agrees_on_wires}
pub use Rattle.node_semantics.proofs.WiresAgree.{event_agrees, acknowledged_same, coming_stands}
pub use Rattle.node_semantics.proofs.QuietAgrees.{quiet_agrees}
pub use Rattle.node_semantics.proofs.SameLines.{same_lines, same_lines_on_wires}
pub use Rattle.node_semantics.proofs.ClassAndFault.{class_kept, fault_kept, any_fault}
pub use Rattle.node_semantics.proofs.FreshNumbers.{numbers_exist, numbers_exist_on_wires, unused_number, is_unused, are_fresh_at, fresh_along}
pub use Rattle.node_semantics.proofs.OutstandingNumbers.{outstanding}
pub use Rattle.node_semantics.proofs.ReceivablePackets.{head_is_receivable}
pub use Rattle.node_semantics.proofs.ReceiptsAnswer.{receive_answers}
pub use Rattle.node_semantics.proofs.TurnsAnswer.{turn_steps, turn_idles}
pub use Rattle.node_semantics.proofs.NodeStandings.{node_says}
pub use Rattle.node_semantics.proofs.MachineStandings.{object_stands, nothing_stands}
pub use Rattle.node_semantics.proofs.StrongerInvariant.{requests_within, names_within, served_within}
pub use Rattle.node_semantics.proofs.PostedLinks.{decide_link}
pub use Rattle.node_semantics.proofs.LinkTests.{any_on_links}
pub use Rattle.node_semantics.proofs.KeptNumbers.{fits_kept}
pub use Rattle.node_semantics.proofs.SettledNumber.{settled_is}
pub use Rattle.node_semantics.proofs.OneConfiguration.{objects_same, messages_same}
