-- The lemmas that other crates cite.
pub use Rattle.known_names.proofs.OnlyAwaited.{only_awaited}
