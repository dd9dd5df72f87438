-- The lemmas that other crates cite.
pub use Rattle.pool_printer.proofs.SameProgram.{same_program}
