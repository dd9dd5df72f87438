-- The lemmas that other crates cite.
pub use Rattle.term_text.proofs.Putting.{on_ok, then}
