-- The lemmas that other crates cite.
pub use Rattle.machine_network.proofs.NumberedLinks.{leaving_numbered, list_numbered, list_within, listed_elsewhere, listed_filled, listed_numbered, push_numbered, pushed_filled}
pub use Rattle.machine_network.proofs.NumberedWires.{act_numbered, coming_numbered, kept_numbered, numbered_coming, numbered_result, put_numbered, take_numbered}
pub use Rattle.machine_network.proofs.ReadyNodes.{element, node_behind, one_further, state_there}
pub use Rattle.machine_network.proofs.WireMap.{never_lost, same_at, taken_at, told_of}
