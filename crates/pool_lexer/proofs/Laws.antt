-- The lemmas that other crates cite: the longest piece at a place, the text that a piece adds, and the table after
-- pieces.
pub use Rattle.pool_lexer.proofs.FirstByte.{white_run, word_run, integer_run}
pub use Rattle.pool_lexer.proofs.TableGrowth.{cases_Option, kept_there, texts_after-cons}
pub use Rattle.pool_lexer.proofs.Longest.{longest_run, longest_string}
pub use Rattle.pool_lexer.proofs.Signs.{longest_narrow, longest_wide}
pub use Rattle.pool_lexer.proofs.WordTokens.{name_kept}
pub use Rattle.pool_lexer.proofs.TokensOrFault.{not_both, same_tokens, same_first_fault}
pub use Rattle.pool_lexer.proofs.SpelledTokens.{spelled_of}
