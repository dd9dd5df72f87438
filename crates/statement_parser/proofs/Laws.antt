-- The lemmas that other crates cite, and a definition that their proofs share.
pub use Rattle.statement_parser.proofs.SimpleStatements.{invoke_within, behind_first, after_destination, misses_sending, misses_unbegun, assigned_rest}
pub use Rattle.statement_parser.proofs.Bodies.{ends_value, ends_statements, after_these, after_guard, after_alt, ends_alt, ends_alts, after_stmt}
