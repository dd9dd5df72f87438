-- Lemmas on the guarantees of a list of tokens for its reader.
use Rattle.std.proofs.Common.{◌≡◌, ◌≢◌, ℕ, zero, suc, ◌+◌, ◌≤◌, List, [], ◌∷◌, length, slice_get, All, Some, inl, inr, sym, ap, subst, arith}
use Rattle.text_scan.specs.Text.{Text}
use Rattle.pool_syntax.specs.Tokens.{HasTokens, texts_after, token_of, tokens_from, toks}
use Rattle.pool_syntax.specs.declared.token.Tok.{Tok}
use Rattle.pool_syntax.specs.declared.token.Tok.TheVariants as tok
use Rattle.pool_syntax.specs.declared.token.Token.{Token}
use Rattle.pool_lexer.specs.TokenLists.{EndsInEnd, IsPlaced}
use Rattle.pool_lexer.specs.Reading.{with_kept}
use Rattle.pool_lexer.proofs.TableGrowth.{cases_Option, texts_after-cons, token_placed, token_not_end}
use Rattle.pool_syntax.proofs.Laws.{pieces_count}

-- End alone, and a token before what ends in End
ends_one : EndsInEnd (tok.End ∷ [])
ends_one = (omega arith, one)
  where
    one : (i : ℕ) (t : Tok) → slice_get (tok.End ∷ []) i ≡ Some t → (t ≡ tok.End → i + 1 ≡ 1) × (i + 1 ≡ 1 → t ≡ tok.End)
    one zero t e = (λ _. omega arith, λ _. cc)
    one (suc i) t e = cc

ends_more : (u : Tok) (us : List Tok) → u ≢ tok.End → EndsInEnd us → EndsInEnd (u ∷ us)
ends_more u us some ends = (omega arith, more)
  where
    more : (i : ℕ) (t : Tok) → slice_get (u ∷ us) i ≡ Some t → (t ≡ tok.End → i + 1 ≡ length (u ∷ us)) × (i + 1 ≡ length (u ∷ us) → t ≡ tok.End)
    more zero t e = (λ end. absurd (some cc), λ last. absurd (omega (arith, ends.0)))
    more (suc i) t e = let behind = ends.1 i t e in (λ end. omega (arith, behind.0 end), λ last. behind.1 (omega arith))

ended_from : (names : List Text) (at : ℕ) (ws : List Text) → EndsInEnd (toks (tokens_from names at ws))
ended_from names at [] = ends_one
ended_from names at (w ∷ ws) = elim (cases_Option (token_of names w)) [
  | inl none ↦ rw (tokens_from, none) (ended_from names (at + length w) ws)
  | inr some ↦ rw (tokens_from, some.1) (ends_more some.0 _ (token_not_end names w some.0 some.1) (ended_from names (at + length w) ws))
]

-- every number is a place
pub all_more : (P : Tok → Type 0) (t : Tok) (ts : List Tok) → P t → All P ts → All P (t ∷ ts)
all_more P t ts here others zero d h = here
all_more P t ts here others (suc k) d h = others k d (omega arith)

pub all_none : (P : Tok → Type 0) → All P []
all_none P k d h = absurd (omega arith)

placed_from : (seen : List Text) (at : ℕ) (ws : List Text) → All (IsPlaced (length (texts_after seen ws))) (toks (tokens_from (texts_after seen ws) at ws))
placed_from seen at [] = all_more (IsPlaced (length seen)) tok.End [] tt (all_none (IsPlaced (length seen)))
placed_from seen at (w ∷ ws) =
    let final = texts_after (with_kept seen w) ws in
    let others = placed_from (with_kept seen w) (at + length w) ws in
    let all : All (IsPlaced (length final)) (toks (tokens_from final at (w ∷ ws))) = elim (cases_Option (token_of final w)) [
      | inl none ↦ rw (tokens_from, none) others
      | inr some ↦ rw (tokens_from, some.1) (all_more (IsPlaced (length final)) some.0 _ (token_placed seen w ws some.0 some.1) others)
    ] in
    subst (λ names. All (IsPlaced (length names)) (toks (tokens_from names at (w ∷ ws)))) (sym (texts_after-cons seen w ws)) all

-- no more tokens than bytes, but for End
count_from : (names : List Text) (at : ℕ) (ws : List Text) → length (tokens_from names at ws) ≤ length ws + 1
count_from names at [] = omega arith
count_from names at (w ∷ ws) =
    let others = count_from names (at + length w) ws in
    elim (cases_Option (token_of names w)) [
      | inl none ↦ rw (tokens_from, none) (omega arith)
      | inr some ↦ rw (tokens_from, some.1) (omega arith)
    ]

module _ (s : Text) (names : List Text) (ts : List Token) (h : HasTokens s names ts) where
  pub ended_of : EndsInEnd (toks ts)
  ended_of = subst (λ us. EndsInEnd (toks us)) (sym h.4) (ended_from names 0 h.0)

  pub placed_of : All (IsPlaced (length names)) (toks ts)
  placed_of =
      let here = placed_from [] 0 h.0 in
      subst (λ us. All (IsPlaced (length names)) (toks us)) (sym h.4) (subst (λ table. All (IsPlaced (length table)) (toks (tokens_from table 0 h.0))) (sym h.3) here)

  pub count_of : length ts ≤ length s + 1
  count_of =
      let tokens = ap length h.4 in
      let from = count_from names 0 h.0 in
      let pieces = pieces_count s h.0 h.1 in
      omega arith
