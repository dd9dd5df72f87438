-- The lemmas that other crates cite.
pub use Rattle.patterns.proofs.Derivatives.{after_alike, begins_none, begins_one, matches_whole, whole_is_nullable}
pub use Rattle.patterns.proofs.RowFacts.{grown_has, grown_more, grown_still, grown_within, not_grown}
