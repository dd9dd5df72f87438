-- Lists of the code and the lists of trees that they represent.
use Rattle.std.proofs.Common.{◌≡◌, List, [], ◌∷◌, ◌++◌, refl, ap}
use Rattle.pool_syntax.specs.declared.tree.Alt.{Alt}
use Rattle.pool_syntax.specs.declared.tree.Stmt.{Stmt}
use Rattle.pool_syntax.specs.Terms.{Then, Alt as OneMore}
use Rattle.pool_grammar.specs.Grammar.{then_last, alt_last}
use Rattle.pool_syntax.specs.TreeOf.{expression_of, statement_of, statements_of, alternatives_of}
use Rattle.statement_parser.specs.Alternatives.{alternative_of}

pub statements-last : (ss : List Stmt) (s : Stmt) → statements_of (ss ++ s ∷ []) ≡ then_last (statements_of ss) (statement_of s)
statements-last [] s = refl
statements-last (x ∷ ss) s = ap (Then (statement_of x)) (statements-last ss s)

pub alternatives-last : (alts : List Alt) (a : Alt) → alternatives_of (alts ++ a ∷ []) ≡ alt_last (alternatives_of alts) (alternative_of a)
alternatives-last [] a = refl
alternatives-last (x ∷ alts) a = ap (OneMore (expression_of x.guard) x.answer (statements_of x.work)) (alternatives-last alts a)
