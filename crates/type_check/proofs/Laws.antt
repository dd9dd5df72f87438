-- The lemmas that other crates cite.
pub use Rattle.type_check.proofs.FaultAccumulation.{noted_append}
pub use Rattle.type_check.proofs.BeforeLaws.{before_more, any_before, length-before}
