-- The lemmas that other crates cite, and the definitions that their proofs share.
pub use Rattle.expression_parser.proofs.ClearRules.{Clear, Misses}
pub use Rattle.expression_parser.proofs.RuleComposition.{at_least, begins_at_least, begun_of, front_of, shorter, Derives-tree, Derives-token, Derives-inner, Derives-either, Begins-tree, Begins-inner, Begins-either, begins_within, token_one, reads_tree, reads_token, reads_missing, reads_first, reads_second, reads_inner, reads_refused, clear_tree, clear_token, clear_sign, clear_word, clear_either, clear_inner, misses_token, misses_either, misses_inner, reads_nothing, off, off_tree, put, put-id, reads_last, reads_factored, reads_regrouped}
pub use Rattle.expression_parser.proofs.Invocation.{invoke_postfix, invoke_begins, postfix_begins}
pub use Rattle.expression_parser.proofs.ParserTokens.{seen_ended}
pub use Rattle.expression_parser.proofs.Exits.{passed_on, unexpected, relay}
pub use Rattle.expression_parser.proofs.Ranks.{left_at}
pub use Rattle.expression_parser.proofs.SingleTokens.{clash, clear_any, sign_there, word_there, sign_read, word_read, sign_missing, word_missing, name_missing, off_sign, off_word}
pub use Rattle.expression_parser.proofs.Levels.{operator_strength, group_strength, operand_above, after_operand}
pub use Rattle.expression_parser.proofs.Primaries.{begins_primary, prefix_begins_none, after_sum, misses_postfix, misses_expr, variable_read, closes_expression, after_primary, postfix_read, sends_end, not_invoke}
pub use Rattle.expression_parser.proofs.ArgumentLists.{after_arg, closes_args}
