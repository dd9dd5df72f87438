-- The lemmas that other crates cite.
pub use Rattle.pool_parser.proofs.SpelledTrees.{program_spelled}
