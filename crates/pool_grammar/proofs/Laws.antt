-- The definition that the proofs of other crates share.
pub use Rattle.pool_grammar.proofs.Terminals.{IsTerminal}
