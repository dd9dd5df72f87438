-- An expression in a place that requires a level, and lists inside expressions and statements.
use Rattle.std.proofs.Common.{◌≡◌, refl, sym, ap, ◌∙◌, ℕ, ◌+◌, ◌<◌, ◌≤◌, Bool, true, false, List, [], ◌∷◌, ◌++◌, length, drop, get_or, nat_le, if◌then◌else◌, arith}
use Rattle.std.proofs.lemmas.Bool.Decides.{nat_tests}
use Rattle.text_scan.specs.Text.{Text}
use Rattle.run_types.specs.declared.types.Op.{Op}
use Rattle.pool_syntax.specs.declared.token.Tok.{Tok}
use Rattle.pool_syntax.specs.declared.token.Tok.TheVariants.{Sign}
use Rattle.pool_syntax.specs.declared.token.Sign.TheVariants as sign
use Rattle.pool_syntax.specs.declared.tree.Expr.{Expr}
use Rattle.pool_syntax.specs.Terms.{Expression, Expressions, Infix, Send}
use Rattle.pool_syntax.specs.TreeOf.{expression_of, expressions_of}
use Rattle.pool_printer.specs.Canonical.{in_place, argument_tokens, bare_tokens, call_tokens, expression_tokens, left_need, operator_token, right_need}
use Rattle.pool_printer.specs.Known.{are_known, is_known}
use Rattle.pool_printer.specs.SinkState.{separator_at}
use Rattle.pool_printer.proofs.PartsFrom.{from_place}
use Rattle.pool_printer.proofs.SeparatedParts.{known_left, known_right, parts_more}
use Rattle.run_types.proofs.Laws.{second}

pub in_place_high : (need level : ℕ) (ts : List Tok) → need ≤ level → ts ≡ in_place need level ts
in_place_high need level ts h = grind (arith, nat_tests)

pub in_place_low : (need level : ℕ) (ts : List Tok) → level < need → Sign sign.LeftParen ∷ (ts ++ Sign sign.RightParen ∷ []) ≡ in_place need level ts
in_place_low need level ts h = grind (arith, nat_tests)

known_bracketed : (names : List Text) (k : Bool) (ts : List Tok) → are_known names (if k then ts else Sign sign.LeftParen ∷ (ts ++ Sign sign.RightParen ∷ [])) ≡ true → are_known names ts ≡ true
known_bracketed names true ts h = h
known_bracketed names false ts h = known_left names ts _ h

pub known_in_place : (names : List Text) (need level : ℕ) (ts : List Tok) → are_known names (in_place need level ts) ≡ true → are_known names ts ≡ true
known_in_place names need level ts h = known_bracketed names (nat_le need level) ts h

pub arguments_more : (es : List Expr) (i : ℕ) (e : Expr) → i < length es → e ≡ get_or es i e
    → from_place (Sign sign.Comma) i (argument_tokens (expressions_of (drop i es)))
    ≡ separator_at (Sign sign.Comma) i ++ (expression_tokens 1 (expression_of e) ++ from_place (Sign sign.Comma) (i + 1) (argument_tokens (expressions_of (drop (i + 1) es))))
arguments_more es i e within at =
    parts_more (Sign sign.Comma) (λ xs. argument_tokens (expressions_of xs)) (λ x. expression_tokens 1 (expression_of x)) es i e within at (λ ys y. refl)

-- what is known of an expression is known of its parts

pub known_infix : (names : List Text) (o : Op) (l r : Expression) (p : ℕ) → are_known names (bare_tokens (Infix o l r p)) ≡ true
    → (are_known names (expression_tokens (left_need o) l) ≡ true) × (are_known names (expression_tokens (right_need o) r) ≡ true)
known_infix names o l r p h = (
  known_left names (expression_tokens (left_need o) l) (operator_token o ∷ expression_tokens (right_need o) r) h,
  second (is_known names (operator_token o)) (are_known names (expression_tokens (right_need o) r))
      (known_right names (expression_tokens (left_need o) l) (operator_token o ∷ expression_tokens (right_need o) r) h),
)

pub known_send : (names : List Text) (e : Expression) (m : ℕ) (es : Expressions) (p : ℕ) → are_known names (bare_tokens (Send e m es p)) ≡ true
    → (are_known names (expression_tokens 7 e) ≡ true) × (are_known names (call_tokens m es) ≡ true)
known_send names e m es p h = (
  known_left names (expression_tokens 7 e) (Sign sign.Bang ∷ call_tokens m es) h,
  known_right names (expression_tokens 7 e) (Sign sign.Bang ∷ call_tokens m es) h,
)

pub known_part : (names : List Text) (xs ys zs rest : List Tok) → rest ≡ xs ++ (ys ++ zs) → are_known names rest ≡ true → are_known names ys ≡ true
known_part names xs ys zs rest e h = known_left names ys zs (known_right names xs (ys ++ zs) (ap (are_known names) (sym e) ∙ h))
