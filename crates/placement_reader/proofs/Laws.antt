-- The lemmas that other crates cite.
pub use Rattle.placement_reader.proofs.PlacementSuits.{placement_suits}
