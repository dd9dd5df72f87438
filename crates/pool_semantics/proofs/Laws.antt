-- The lemmas that other crates cite.
pub use Rattle.pool_semantics.proofs.PairMessages.{list_found, list_missing}
pub use Rattle.pool_semantics.proofs.SoundSteps.{sound_now}
pub use Rattle.pool_semantics.proofs.MapAbstraction.{things_lookup, things_insert}
pub use Rattle.pool_semantics.proofs.TypedFacts.{sound_is_kept}
