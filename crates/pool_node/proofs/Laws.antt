-- The lemmas that other crates cite.
pub use Rattle.pool_node.proofs.AcceptablePackets.{acceptable, made_below}
