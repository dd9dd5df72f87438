-- The weight of an expression, which is the number of its parts; a method under way counts as one part.
use Rattle.std.specs.Prelude.{ℕ, suc, ◌+◌}
use Rattle.pool_syntax.specs.Terms as T
use Rattle.pool_syntax.specs.Terms.{Expression, Expressions}

abbrev mutual
  pub weight : Expression → ℕ
  weight (T.Literal v p) = 1
  weight (T.Me p) = 1
  weight (T.Variable x p) = 1
  weight (T.Create c p) = 1
  weight (T.Prefix op e p) = suc (weight e)
  weight (T.Infix op l r p) = suc (weight l + weight r)
  weight (T.Call m es p) = suc (weights es)
  weight (T.Send e m es p) = suc (weight e + weights es)
  weight (T.Frame m t ss e qs) = 1
  weight (T.Wait b m) = 1

  pub weights : Expressions → ℕ
  weights T.NoArgs = 0
  weights (T.Arg e es) = weight e + weights es
