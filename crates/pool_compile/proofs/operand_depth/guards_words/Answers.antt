use Rattle.std.proofs.Common.{refl, arith}
use Rattle.pool_syntax.specs.declared.tree.Alt.{out-Alt}
use Rattle.pool_syntax.specs.TreeOf.{expression_of, alternatives_of}
use Rattle.pool_compile.specs.Code.{expression_words, guards_words}
use Rattle.pool_compile.proofs.Greater.{at_front, by_tree, step_back}
use Rattle.pool_compile.proofs.operand_depth.guards_words.Goals as goal

pub loop-left-preserved : goal.loop-left-preserved
loop-left-preserved c =
    step_back (λ xs. guards_words (alternatives_of xs)) (λ a. expression_words (expression_of (out-Alt a).guard)) c.args.alts.now c.loop-left.left c.index-alts-left.result c.loop-left.most c.expression_words.result c.saturating_add.result c.more-most.result
    (omega arith) (omega arith) c.index-alts-left.is (λ y ys. refl) c.loop-left.invariant
    (by_tree (λ a. expression_words (expression_of (out-Alt a).guard)) c.index-alts-left.result _ _ c.index-alts-left.is c.expression_words.ensures) c.saturating_add.ensures c.more-most.ensures

pub returns : goal.returns
returns c = at_front (λ xs. guards_words (alternatives_of xs)) c.args.alts.now c.loop-left.left c.loop-left.most (omega arith) c.loop-left.invariant
