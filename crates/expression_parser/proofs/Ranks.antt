-- The order of the functions of a cycle that call each other at the same token.
use Rattle.std.proofs.Common.{ℕ, ◌+◌, ◌-◌, ◌*◌, List, length}
use Rattle.pool_syntax.specs.declared.token.Token.{Token}
use Rattle.expression_parser.specs.declared.expressions.Grouping.{Grouping}
use Rattle.expression_parser.specs.declared.expressions.Grouping.TheVariants.{Or, And, Sum, Product}

abbrev pub rank : Grouping → ℕ
rank Or = 11
rank And = 9
rank Sum = 6
rank Product = 4

-- fewer tokens are left, or as many at a lower rank
abbrev pub left_at : List Token → ℕ → ℕ → ℕ
left_at ts at rank = (length ts - at) * 16 + rank
