-- The lemmas that other crates cite.
pub use Rattle.stepper_text.proofs.WorkLines.{work_is}
