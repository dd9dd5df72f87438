-- The lemmas that other crates cite.
pub use Rattle.class_check.proofs.GrammaticalIsWritten.{derived_written, grammatical_written, has_a_class}
