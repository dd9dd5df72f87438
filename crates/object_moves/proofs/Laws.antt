-- The lemmas that other crates cite.
pub use Rattle.object_moves.proofs.StateGrowth.{no_shorter, front_of_front, objects_still, within_still}
