-- The first tokens of a list, followed by `End`, in comparison with the whole list.
use Rattle.std.proofs.Common.{◌≡◌, ◌≢◌, ℕ, zero, suc, ◌+◌, ◌-◌, ◌<◌, ◌≤◌, List, [], ◌∷◌, Some, length, take, min, slice_get, refl, ap, arith}
use native.Mathlib.Decide.{dec_le}
use Rattle.std.proofs.lemmas.Option.{slice_get-get_or}
use Rattle.pool_lexer.specs.TokenLists.{EndsInEnd}
use Rattle.pool_syntax.specs.Tokens.{toks}
use Rattle.pool_syntax.specs.declared.token.Token.{Token}
use Rattle.pool_syntax.specs.declared.token.Tok.{Tok}
use Rattle.pool_syntax.specs.declared.token.Tok.TheVariants as tok
use Rattle.expression_parser.specs.Nested.{IsNestedBelow}
use Rattle.expression_parser.specs.Parses.{seen}
use Rattle.pool_parser.proofs.DerivationLocality.{AgreeBelow}

pub toks_length : (list : List Token) → length (toks list) ≡ length list
toks_length [] = refl
toks_length (x ∷ list) = ap suc (toks_length list)

front_length : (list : List Token) (n : ℕ) → n ≤ length list → length (take n list) ≡ n
front_length list zero l = refl
front_length [] (suc n) l = absurd (omega arith)
front_length (x ∷ list) (suc n) l = ap suc (front_length list n (omega arith))

-- the tokens in front of the cut are the same
front_same : (list : List Token) (n i : ℕ) → i < n → n ≤ length list → slice_get (seen (take n list)) i ≡ slice_get (toks list) i
unfolding seen
front_same [] n i l m = absurd (omega arith)
front_same (x ∷ list) zero i l m = absurd (omega arith)
front_same (x ∷ list) (suc n) zero l m = refl
front_same (x ∷ list) (suc n) (suc i) l m = front_same list n i (omega arith) (omega arith)

-- no token of the front stands deeper than it does in the list
front_take : (list : List Token) (n k : ℕ) → k ≤ n → take k (toks (take n list)) ≡ take k (toks list)
front_take list n zero l = refl
front_take [] zero (suc k) l = absurd (omega arith)
front_take [] (suc n) (suc k) l = refl
front_take (x ∷ list) zero (suc k) l = absurd (omega arith)
front_take (x ∷ list) (suc n) (suc k) l = ap (λ (ts : List Tok). x.tok ∷ ts) (front_take list n k (omega arith))

pub nested_front : (list : List Token) (n : ℕ) → n ≤ length list → IsNestedBelow (toks list) n → IsNestedBelow (toks (take n list)) (length (take n list))
nested_front list n l h k m =
    let a : length (take n list) ≡ n = front_length list n l in
    rw (front_take list n (k + 1) (omega arith)) (h k (omega arith))

-- all tokens but the last, with End behind them, are all tokens
whole : (list : List Token) (n : ℕ) → n + 1 ≡ length list → slice_get (toks list) n ≡ Some tok.End → seen (take n list) ≡ toks list
unfolding seen
whole [] n e h = absurd (omega arith)
whole (x ∷ []) zero e h = let f : tok.End ≡ x.tok = cc in ap (λ (t : Tok). t ∷ []) f
whole (x ∷ []) (suc n) e h = absurd (omega arith)
whole (x ∷ y ∷ list) zero e h = absurd (omega arith)
whole (x ∷ y ∷ list) (suc n) e h = ap (λ (ts : List Tok). x.tok ∷ ts) (whole (y ∷ list) n (omega arith) h)

once : (list : List Token) (n i : ℕ) → n + 1 ≤ length list → ((k : ℕ) → k + 1 < length list → slice_get (toks list) k ≢ Some tok.End) → slice_get (seen (take n list)) i ≡ Some tok.End → i ≡ length (take n list)
unfolding seen
once [] n i l a h = absurd (omega arith)
once (x ∷ list) zero zero l a h = refl
once (x ∷ list) zero (suc i) l a h = cc
once (x ∷ list) (suc n) zero l a h = absurd (a 0 (omega arith) h)
once (x ∷ list) (suc n) (suc i) l a h = ap suc (once list n i (omega arith) (λ k m. a (suc k) (omega arith)) h)

-- where only the last token is End

pub no_end : (list : List Token) → EndsInEnd (toks list) → (k : ℕ) → k + 1 < length list → slice_get (toks list) k ≢ Some tok.End
no_end list e k l h = let f : k + 1 ≡ length (toks list) = (e.1 k tok.End h).0 refl in omega (arith, toks_length list)

end_last : (list : List Token) (n : ℕ) → EndsInEnd (toks list) → n + 1 ≡ length list → slice_get (toks list) n ≡ Some tok.End
end_last list n e l =
    let h = slice_get-get_or (toks list) n tok.End (omega (arith, toks_length list)) in
    let f = (e.1 n _ h).1 (omega (arith, toks_length list)) in rw f at h

pub once_front : (list : List Token) (n : ℕ) → n + 1 ≤ length list → EndsInEnd (toks list) → (i : ℕ) → slice_get (seen (take n list)) i ≡ Some tok.End → i ≡ length (take n list)
once_front list n l e i h = once list n i l (no_end list e) h

pub whole_front : (list : List Token) (n : ℕ) → EndsInEnd (toks list) → n + 1 ≡ length list → seen (take n list) ≡ toks list
whole_front list n e l = whole list n l (end_last list n e l)

pub whole_length : (list : List Token) (n : ℕ) → n + 1 ≡ length list → length (take n list) + 1 ≡ length (toks list)
whole_length list n l = let a : length (take n list) ≡ n = front_length list n (omega arith) in omega (arith, toks_length list)

-- up to token number d, and that alone if it is not the last, the tokens agree
pub front_agrees : (list : List Token) (d n : ℕ) → EndsInEnd (toks list) → d < length list → n ≡ min (d + 1) (length list - 1) → AgreeBelow (toks list) (seen (take n list)) (d + 1)
front_agrees list d n e l m i k = elim (dec_le (d + 2) (length list)) [
  | yes h ↦ front_same list n i (omega arith) (omega arith)
  | no h ↦ ap (λ (ts : List Tok). slice_get ts i) (whole_front list n e (omega arith))
]

pub front_reaches : (list : List Token) (d n : ℕ) → d < length list → n ≡ min (d + 1) (length list - 1) → d + 1 ≤ length (take n list) + 1
front_reaches list d n l m = let a : length (take n list) ≡ n = front_length list n (omega arith) in omega arith
