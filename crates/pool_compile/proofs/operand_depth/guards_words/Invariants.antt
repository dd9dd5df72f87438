use Rattle.std.proofs.Common.{◌≡◌, ◌≤◌, drop}
use Rattle.pool_syntax.specs.TreeOf.{alternatives_of}
use Rattle.pool_compile.specs.Code.{guards_words}
use Rattle.pool_compile.proofs.operand_depth.guards_words.Given as goal

abbrev pub invariant-loop-left : goal.invariant-loop-left
invariant-loop-left l =
    guards_words (alternatives_of (drop l.left l.alts)) ≤ 64 → l.most ≡ guards_words (alternatives_of (drop l.left l.alts))
