use Rattle.std.proofs.Common.{◌≡◌, ◌++◌, drop}
use Rattle.pool_syntax.specs.TreeOf.{expressions_of}
use Rattle.pool_compile.specs.Code.{expressions_code}
use Rattle.pool_compile.specs.Numberings.{numbering}
use Rattle.pool_compile.proofs.expressions.+expressions.Given as goal

-- the rest behind what is there is all behind what was there
abbrev pub invariant-emit_all-loop-expr : goal.invariant-emit_all-loop-expr
invariant-emit_all-loop-expr l =
    l.code.code ++ expressions_code (numbering l.numbers) (expressions_of (drop l.expr-index l.exprs))
    ≡ l.initial.code.code ++ expressions_code (numbering l.numbers) (expressions_of l.exprs)
