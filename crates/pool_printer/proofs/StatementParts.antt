-- If the texts of statements are in the table, so are those of their parts. And lists of statements one after
-- another.
use Rattle.std.proofs.Common.{◌≡◌, refl, sym, ap, ◌∙◌, ℕ, ◌+◌, ◌<◌, true, List, [], ◌∷◌, ◌++◌, length, drop, get_or, append_assoc, arith}
use Rattle.text_scan.specs.Text.{Text}
use Rattle.pool_syntax.specs.declared.token.Tok.{Tok}
use Rattle.pool_syntax.specs.declared.token.Tok.TheVariants.{Word, Sign}
use Rattle.text_scan.specs.declared.keywords.Keyword.TheVariants as word
use Rattle.pool_syntax.specs.declared.token.Sign.TheVariants as sign
use Rattle.pool_syntax.specs.declared.tree.Stmt.{Stmt}
use Rattle.pool_syntax.specs.declared.tree.Alt.{Alt, out-Alt}
use Rattle.pool_syntax.specs.Terms.{Expression, Expressions, Statements, If, While, Select, Async, Alternatives}
use Rattle.pool_syntax.specs.TreeOf.{expression_of, statement_of, statements_of, alternatives_of}
use Rattle.pool_printer.specs.Canonical.{alternatives_tokens, answer_tokens, call_tokens, else_tokens, expression_tokens, statement_parts, statement_tokens, statements_tokens}
use Rattle.pool_printer.specs.Known.{are_known}
use Rattle.pool_printer.specs.Parts.{alternative_tokens}
use Rattle.pool_printer.specs.SinkState.{separator_at}
use Rattle.pool_printer.proofs.PartsFrom.{from_place}
use Rattle.pool_printer.proofs.SeparatedParts.{known_left, known_right, parts_more, all_more}

pub known_async : (names : List Text) (e : Expression) (m p : ℕ) (es : Expressions) → are_known names (statement_tokens (Async e m p es)) ≡ true
    → (are_known names (expression_tokens 7 e) ≡ true) × (are_known names (call_tokens m es) ≡ true)
known_async names e m p es h = (
  known_left names (expression_tokens 7 e) (Sign sign.BangBang ∷ call_tokens m es) h,
  known_right names (expression_tokens 7 e) (Sign sign.BangBang ∷ call_tokens m es) h,
)

pub known_if : (names : List Text) (e : Expression) (these those : Statements) → are_known names (statement_tokens (If e these those)) ≡ true
    → (are_known names (expression_tokens 1 e) ≡ true) × (are_known names (statements_tokens these) ≡ true) × (are_known names (else_tokens those (statements_tokens those)) ≡ true)
known_if names e these those h =
    let last = Word word.Fi ∷ [] in
    let second = else_tokens those (statements_tokens those) ++ last in
    let first = Word word.Then ∷ (statements_tokens these ++ second) in
    let rest : are_known names (statements_tokens these ++ second) ≡ true = known_right names (expression_tokens 1 e) first h in (
      known_left names (expression_tokens 1 e) first h,
      known_left names (statements_tokens these) second rest,
      known_left names (else_tokens those (statements_tokens those)) last (known_right names (statements_tokens these) second rest),
    )

pub known_while : (names : List Text) (e : Expression) (ss : Statements) → are_known names (statement_tokens (While e ss)) ≡ true
    → (are_known names (expression_tokens 1 e) ≡ true) × (are_known names (statements_tokens ss) ≡ true)
known_while names e ss h =
    let last = Word word.Od ∷ [] in (
      known_left names (expression_tokens 1 e) (Word word.Do ∷ (statements_tokens ss ++ last)) h,
      known_left names (statements_tokens ss) last (known_right names (expression_tokens 1 e) (Word word.Do ∷ (statements_tokens ss ++ last)) h),
    )

pub known_select : (names : List Text) (alts : Alternatives) → are_known names (statement_tokens (Select alts)) ≡ true → are_known names (alternatives_tokens alts) ≡ true
known_select names alts h = known_left names (alternatives_tokens alts) (Word word.End ∷ []) h

pub known_alternative : (names : List Text) (a : Alt) → are_known names (alternative_tokens a) ≡ true
    → (are_known names (expression_tokens 1 (expression_of (out-Alt a).guard)) ≡ true) × (are_known names (answer_tokens (out-Alt a).answer) ≡ true)
    × (are_known names (statements_tokens (statements_of (out-Alt a).work)) ≡ true)
known_alternative names a h =
    let guard = expression_tokens 1 (expression_of (out-Alt a).guard) in
    let list = answer_tokens (out-Alt a).answer in
    let work = Word word.Then ∷ statements_tokens (statements_of (out-Alt a).work) in
    let rest : are_known names (list ++ work) ≡ true = known_right names guard (list ++ work) h in
    (known_left names guard (list ++ work) h, known_left names list work rest, known_right names list work rest)

pub statements_more : (ss : List Stmt) (i : ℕ) (s : Stmt) → i < length ss → s ≡ get_or ss i s
    → from_place (Sign sign.Semicolon) i (statement_parts (statements_of (drop i ss)))
    ≡ separator_at (Sign sign.Semicolon) i ++ (statement_tokens (statement_of s) ++ from_place (Sign sign.Semicolon) (i + 1) (statement_parts (statements_of (drop (i + 1) ss))))
statements_more ss i s within at =
    parts_more (Sign sign.Semicolon) (λ xs. statement_parts (statements_of xs)) (λ x. statement_tokens (statement_of x)) ss i s within at (λ ys y. refl)

alternative_first : (rest : List Alt) (a : Alt) → alternatives_tokens (alternatives_of (a ∷ rest)) ≡ alternative_tokens a ++ alternatives_tokens (alternatives_of rest)
alternative_first rest a =
    let guard = Word word.When ∷ expression_tokens 1 (expression_of (out-Alt a).guard) in
    let list = answer_tokens (out-Alt a).answer in
    let work = Word word.Then ∷ statements_tokens (statements_of (out-Alt a).work) in
    let more = alternatives_tokens (alternatives_of rest) in
    sym (append_assoc guard (list ++ work) more ∙ ap (λ t. guard ++ t) (append_assoc list work more))

pub alternatives_more : (xs : List Alt) (i : ℕ) (a : Alt) → i < length xs → a ≡ get_or xs i a
    → alternatives_tokens (alternatives_of (drop i xs)) ≡ alternative_tokens a ++ alternatives_tokens (alternatives_of (drop (i + 1) xs))
alternatives_more xs i a within at = all_more (λ ys. alternatives_tokens (alternatives_of ys)) alternative_tokens xs i a within at alternative_first

pub else_there : (ss : List Stmt) (ts : List Tok) → 0 < length ss → Word word.Else ∷ ts ≡ else_tokens (statements_of ss) ts
else_there [] ts h = absurd (omega arith)
else_there (s ∷ ss) ts h = refl
