-- Lists with the same tree have the same length, and at each index items with the same tree.
use Rattle.std.proofs.Common.{◌≡◌, ℕ, ◌<◌, List, [], ◌∷◌, length, map, get_or, refl, sym, ap, ◌∙◌, arith}
use Rattle.std.proofs.lemmas.Grind.{common_steps}
use Rattle.std.proofs.lemmas.List.{length-map, get_or-map}
use Rattle.pool_syntax.specs.declared.tree.Expr.{Expr}
use Rattle.pool_syntax.specs.declared.tree.Stmt.{Stmt}
use Rattle.pool_syntax.specs.declared.tree.Alt.{Alt}
use Rattle.pool_syntax.specs.Terms.{Alternatives}
use Rattle.pool_syntax.specs.TreeOf.{expression_of, expressions_of, statement_of, statements_of, alternatives_of}

pub as_many : {A B : Type 0} (f : A → B) (xs ys : List A) → map f xs ≡ map f ys → length xs ≡ length ys
as_many f xs ys s = sym (length-map xs f) ∙ ap length s ∙ length-map ys f

pub same_at : {A B : Type 0} (f : A → B) (xs ys : List A) (i : ℕ) (x y : A) → i < length xs → i < length ys → x ≡ get_or xs i x → y ≡ get_or ys i y
    → map f xs ≡ map f ys → f x ≡ f y
same_at f xs ys i x y l m a b s = ap f a ∙ sym (get_or-map f xs i x (f x) l) ∙ ap (λ zs. get_or zs i (f x)) s ∙ get_or-map f ys i y (f x) m ∙ sym (ap f b)

pub expressions_each : (xs ys : List Expr) → expressions_of xs ≡ expressions_of ys → map expression_of xs ≡ map expression_of ys
expressions_each [] [] s = refl
expressions_each [] (y ∷ ys) s = grind (arith, common_steps)
expressions_each (x ∷ xs) [] s = grind (arith, common_steps)
expressions_each (x ∷ xs) (y ∷ ys) s = grind (arith, common_steps, expressions_each xs ys)

pub statements_each : (xs ys : List Stmt) → statements_of xs ≡ statements_of ys → map statement_of xs ≡ map statement_of ys
statements_each [] [] s = refl
statements_each [] (y ∷ ys) s = grind (arith, common_steps)
statements_each (x ∷ xs) [] s = grind (arith, common_steps)
statements_each (x ∷ xs) (y ∷ ys) s = grind (arith, common_steps, statements_each xs ys)

-- the tree of an alternative by itself
abbrev pub alone : Alt → Alternatives
alone a = alternatives_of (a ∷ [])

pub alternatives_each : (xs ys : List Alt) → alternatives_of xs ≡ alternatives_of ys → map alone xs ≡ map alone ys
alternatives_each [] [] s = refl
alternatives_each [] (y ∷ ys) s = grind (arith, common_steps)
alternatives_each (x ∷ xs) [] s = grind (arith, common_steps)
alternatives_each (x ∷ xs) (y ∷ ys) s = grind (arith, common_steps, alternatives_each xs ys)
