-- If the texts of declarations are in the table, so are those of their parts. And lists of declarations one after
-- another.
use Rattle.std.proofs.Common.{◌≡◌, refl, ℕ, ◌+◌, ◌<◌, true, map, List, [], ◌∷◌, ◌++◌, length, drop, get_or, false, nat_eq}
use Rattle.text_scan.specs.Text.{Text}
use Rattle.pool_syntax.specs.declared.token.Tok.TheVariants.{Word, Sign, Name}
use Rattle.text_scan.specs.declared.keywords.Keyword.{Keyword}
use Rattle.text_scan.specs.declared.keywords.Keyword.TheVariants as word
use Rattle.pool_syntax.specs.declared.token.Sign.TheVariants as sign
use Rattle.pool_syntax.specs.declared.tree.Var.{Var}
use Rattle.pool_syntax.specs.declared.tree.Method.{Method}
use Rattle.pool_syntax.specs.declared.tree.Stmt.{Stmt}
use Rattle.pool_syntax.specs.declared.tree.ClassDecl.{ClassDecl}
use Rattle.pool_syntax.specs.Terms.{MethodTree, ClassTree}
use Rattle.pool_syntax.specs.TreeOf.{class_tree, method_tree, statements_of}
use Rattle.pool_printer.specs.Canonical.{class_tokens, declarations_tokens, method_tokens, methods_tokens, outcome_tokens, program_tokens, result_tokens, separated_by, statements_tokens, variable_tokens, post_tokens}
use Rattle.pool_printer.specs.Known.{are_known, is_known}
use Rattle.pool_printer.proofs.SeparatedParts.{known_left, known_right, all_more, all_at}
use Rattle.run_types.proofs.Laws.{second as right_true, first as left_true}

pub known_method : (names : List Text) (m : MethodTree) → are_known names (method_tokens m) ≡ true
    → (is_known names (Name m.name.name) ≡ true) × (are_known names (separated_by (Sign sign.Comma) (map variable_tokens m.params)) ≡ true)
    × (are_known names (outcome_tokens m.outcome) ≡ true) × (are_known names (declarations_tokens word.Local m.locals) ≡ true)
    × (are_known names (statements_tokens m.body) ≡ true) × (are_known names (result_tokens m.outcome m.value) ≡ true)
    × (are_known names (post_tokens m.post) ≡ true)
known_method names m h =
    let params = separated_by (Sign sign.Comma) (map variable_tokens m.params) in
    let outcome = outcome_tokens m.outcome in
    let locals = declarations_tokens word.Local m.locals in
    let body = statements_tokens m.body in
    let value = result_tokens m.outcome m.value in
    let post = post_tokens m.post in
    let last = post ++ Word word.End ∷ [] in
    let from_begin = Word word.Begin ∷ (body ++ (value ++ last)) in
    let from_paren = Sign sign.RightParen ∷ (outcome ++ (locals ++ from_begin)) in
    let first : are_known names (params ++ from_paren) ≡ true = right_true (is_known names (Name m.name.name)) (are_known names (params ++ from_paren)) h in
    let second : are_known names (outcome ++ (locals ++ from_begin)) ≡ true = known_right names params from_paren first in
    let third : are_known names (locals ++ from_begin) ≡ true = known_right names outcome (locals ++ from_begin) second in
    let fourth : are_known names (body ++ (value ++ last)) ≡ true = known_right names locals from_begin third in
    let fifth : are_known names (value ++ last) ≡ true = known_right names body (value ++ last) fourth in (
      left_true (is_known names (Name m.name.name)) (are_known names (params ++ from_paren)) h,
      known_left names params from_paren first,
      known_left names outcome (locals ++ from_begin) second,
      known_left names locals from_begin third,
      known_left names body (value ++ last) fourth,
      known_left names value last fifth,
      known_left names post (Word word.End ∷ []) (known_right names value last fifth),
    )

-- post statements that are there
pub post_there : (ss : List Stmt) → nat_eq (length ss) 0 ≡ false → post_tokens (statements_of ss) ≡ Word word.Post ∷ statements_tokens (statements_of ss)
post_there [] h = absurd (cc)
post_there (s ∷ ss) h = refl

pub known_class : (names : List Text) (c : ClassTree) → are_known names (class_tokens c) ≡ true
    → (is_known names (Name c.name.name) ≡ true) × (are_known names (declarations_tokens word.Var c.vars) ≡ true)
    × (are_known names (methods_tokens c.methods) ≡ true) × (are_known names (statements_tokens c.body) ≡ true)
known_class names c h =
    let vars = declarations_tokens word.Var c.vars in
    let methods = methods_tokens c.methods in
    let body = statements_tokens c.body in
    let last = Word word.End ∷ [] in
    let from_body = Word word.Body ∷ (body ++ last) in
    let first : are_known names (vars ++ (methods ++ from_body)) ≡ true = right_true (is_known names (Name c.name.name)) (are_known names (vars ++ (methods ++ from_body))) h in
    let second : are_known names (methods ++ from_body) ≡ true = known_right names vars (methods ++ from_body) first in
    let third : are_known names (body ++ last) ≡ true = known_right names methods from_body second in (
      left_true (is_known names (Name c.name.name)) (are_known names (vars ++ (methods ++ from_body))) h,
      known_left names vars (methods ++ from_body) first,
      known_left names methods from_body second,
      known_left names body last third,
    )

pub methods_more : (ms : List Method) (i : ℕ) (m : Method) → i < length ms → m ≡ get_or ms i m
    → methods_tokens (map method_tree (drop i ms)) ≡ method_tokens (method_tree m) ++ methods_tokens (map method_tree (drop (i + 1) ms))
methods_more ms i m within at = all_more (λ xs. methods_tokens (map method_tree xs)) (λ x. method_tokens (method_tree x)) ms i m within at (λ ys y. refl)

pub classes_more : (ks : List ClassDecl) (i : ℕ) (k : ClassDecl) → i < length ks → k ≡ get_or ks i k
    → program_tokens (map class_tree (drop i ks)) ≡ class_tokens (class_tree k) ++ program_tokens (map class_tree (drop (i + 1) ks))
classes_more ks i k within at = all_more (λ xs. program_tokens (map class_tree xs)) (λ x. class_tokens (class_tree x)) ks i k within at (λ ys y. refl)

pub variables_more : (k : Keyword) (vs : List Var) (i : ℕ) (d : Var) → i < length vs
    → declarations_tokens k (drop i vs) ≡ (Word k ∷ variable_tokens (get_or vs i d)) ++ declarations_tokens k (drop (i + 1) vs)
variables_more k vs i d within = all_at (declarations_tokens k) (λ v. Word k ∷ variable_tokens v) vs i d within (λ ys y. refl)
