-- The lemmas that other crates cite.
pub use Rattle.visited_set.proofs.EachMore.{each_more}
pub use Rattle.visited_set.proofs.FailedResults.{not_ok, not_true}
pub use Rattle.visited_set.proofs.WaiterPlaces.{below_or_from, has_more}
