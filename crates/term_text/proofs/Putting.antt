-- Text that is put behind other text.
use Rattle.std.proofs.Common.{◌≡◌, sym, ap, ◌∙◌, ◌<◌, List, [], ◌∷◌, ◌++◌, length, drop, get_or, Result, Ok, Err, append_assoc, arith}
use Rattle.std.specs.Prelude.{OnOk}
use Rattle.text_scan.specs.Text.{Text}
use Rattle.pool_syntax.specs.declared.tree.Expr.{Expr}
use Rattle.pool_syntax.specs.TreeOf.{expression_of, expressions_of}
use Rattle.term_text.specs.Words.{arguments_text, bare_text, more_arguments}

pub on_ok : {T E P Q : Type 0} (r : Result T E) → (P → Q) → OnOk r P → OnOk r Q
on_ok (Ok x) f p = f p
on_ok (Err e) f p = tt

-- text behind text
pub then : (c a b d e : Text) → d ≡ c ++ a → e ≡ d ++ b → e ≡ c ++ (a ++ b)
then c a b d e p q = q ∙ ap (λ x. x ++ b) p ∙ append_assoc c a b

-- the first of some arguments, and then the others
pub first_argument : (names : List Text) (es : List Expr) (e : Expr) → 0 < length es → e ≡ get_or es 0 e
    → arguments_text names (expressions_of es) ≡ bare_text names (expression_of e) ++ more_arguments names (expressions_of (drop 1 es))
first_argument names [] e h is = absurd (omega (arith, h))
first_argument names (x ∷ xs) e h is = ap (λ y. bare_text names (expression_of y) ++ more_arguments names (expressions_of xs)) (sym is)
