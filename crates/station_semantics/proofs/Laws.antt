-- The lemmas that other crates cite.
pub use Rattle.station_semantics.proofs.LinkCounts.{leaving_less}
pub use Rattle.station_semantics.proofs.Steps.{steps}
pub use Rattle.station_semantics.proofs.AnySteps.{any_steps}
pub use Rattle.station_semantics.proofs.MergedRecord.{merged_record}
pub use Rattle.station_semantics.proofs.AnyRecord.{any_record}
