-- Counts of operands held from 64 on all give the same faults.
use Rattle.std.proofs.Common.{◌≡◌, refl, ℕ, ◌+◌, min, List, [], ◌∷◌, arith, nat_le}
use Rattle.std.proofs.lemmas.Bool.Decides.{nat_tests}
use Rattle.pool_syntax.specs.declared.tree.Var.{Var}
use Rattle.pool_syntax.specs.Terms.{Expression, Literal, Me, Variable, Create, Prefix, Infix, Call, Send, Frame, Wait, Expressions, NoArgs, Arg}
use Rattle.pool_syntax.specs.Typing.{Scope, limit_faults, expression_faults, arguments_faults}

same_limit : (h k at : ℕ) → min h 64 ≡ min k 64 → limit_faults h at ≡ limit_faults k at
same_limit h k at same = let e : nat_le 64 h ≡ nat_le 64 k = grind (arith, nat_tests) in rw e refl

mutual
  pub same_faults : (g : Scope) (h k : ℕ) (e : Expression) → min h 64 ≡ min k 64 → expression_faults g h e ≡ expression_faults g k e
  same_faults g h k (Literal v p) same = rw (same_limit h k p same) refl
  same_faults g h k (Me p) same = same_limit h k p same
  same_faults g h k (Variable x p) same = rw (same_limit h k p same) refl
  same_faults g h k (Create c p) same = rw (same_limit h k p same) refl
  same_faults g h k (Prefix op e p) same = rw (same_limit h k p same, same_faults g h k e same) refl
  same_faults g h k (Infix op l r p) same =
      rw (same_limit h k p same, same_faults g h k l same, same_faults g (h + 1) (k + 1) r (omega arith)) refl
  same_faults g h k (Call m es p) same = rw (same_limit h k p same, same_arguments g h k _ es same) refl
  same_faults g h k (Send e m es p) same =
      rw (same_limit h k p same, same_faults g h k e same, same_arguments g (h + 1) (k + 1) _ es (omega arith)) refl
  same_faults g h k (Frame m t ss e qs) same = refl
  same_faults g h k (Wait b m) same = refl

  pub same_arguments : (g : Scope) (h k : ℕ) (vs : List Var) (es : Expressions) → min h 64 ≡ min k 64 → arguments_faults g h vs es ≡ arguments_faults g k vs es
  same_arguments g h k vs NoArgs same = refl
  same_arguments g h k [] (Arg e es) same = rw (same_faults g h k e same, same_arguments g (h + 1) (k + 1) [] es (omega arith)) refl
  same_arguments g h k (v ∷ vs) (Arg e es) same = rw (same_faults g h k e same, same_arguments g (h + 1) (k + 1) vs es (omega arith)) refl
