-- The levels of left-associative operators that the names of the code represent.
use Rattle.expression_parser.specs.declared.expressions.Grouping.{Grouping}
use Rattle.expression_parser.specs.declared.expressions.Grouping.TheVariants.{Or, And, Sum, Product}
use Rattle.pool_grammar.specs.Rules.{Group, disjunction, conjunction, addition, multiplication}

-- the level with this name of the code
abbrev pub group_of : Grouping → Group
group_of Or = disjunction
group_of And = conjunction
group_of Sum = addition
group_of Product = multiplication
