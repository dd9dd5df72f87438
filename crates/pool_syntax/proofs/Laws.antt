-- The lemmas that other crates cite: how the lists inside the trees of the code represent those of `Terms`, and
-- bounds on the pieces of a text.
pub use Rattle.pool_syntax.proofs.Trees.{expression_row-all, call_tree, send_tree, statement_row-all, if_tree, while_tree, select_tree}
pub use Rattle.pool_syntax.proofs.Pieces.{pieces_count, piece_within}
