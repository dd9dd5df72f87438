-- The longest sign at the front of a text.
use Rattle.std.proofs.Common.{◌≡◌, ◌≢◌, ℕ, zero, suc, ◌<◌, Bool, true, false, ◌&&◌, nat_le, List, [], ◌∷◌, length, take, Some, None, is_some, bytes_eq, refl, ap, ◌∙◌, inl, inr, arith}
use Rattle.std.proofs.lemmas.Bool.{cases_eq, and_parts, leb-true}
use Rattle.std.proofs.lemmas.List.{length-take}
use Rattle.text_scan.specs.Text.{Text, is_listed, lookup}
use Rattle.pool_syntax.specs.Tokens.{is_piece, longest, signs}
use Rattle.pool_syntax.specs.declared.token.Sign.{Sign}
use Rattle.pool_lexer.specs.Pieces.{IsNoRun}
use Rattle.text_scan.proofs.Laws.{listed_is}
use Rattle.pool_lexer.proofs.FirstByte.{sign_piece}
use Rattle.pool_lexer.proofs.Longest.{NoneLonger, longest_is, longest_no}

-- whether no text of the table has more than n bytes
abbrev are_short : {A : Type 0} → ℕ → List (Text × A) → Bool
are_short n [] = true
are_short n (row ∷ rows) = nat_le (length row.0) n && are_short n rows

length_differs : (x w : Text) → length x < length w → bytes_eq x w ≡ false
length_differs [] [] h = absurd (omega arith)
length_differs [] (b ∷ w) h = refl
length_differs (a ∷ x) [] h = refl
length_differs (a ∷ x) (b ∷ w) h = grind (arith, length_differs x w)

long_row : {A : Type 0} (n : ℕ) (rows : List (Text × A)) (w : Text) → are_short n rows ≡ true → n < length w → is_listed rows w ≡ false
long_row n [] w short h = refl
long_row n ((x, meaning) ∷ rows) w short h =
    let parts = and_parts (nat_le (length x) n) (are_short n rows) short in
    let other : bytes_eq x w ≡ false = length_differs x w (omega (arith, leb-true (length x) n parts.0)) in
    rw other (long_row n rows w parts.1 h)

pub front_same : (s : Text) → take (length (take 1 s)) s ≡ take 1 s
front_same [] = refl
front_same (b ∷ bs) = refl

-- a sign begins with a byte that begins nothing else
module _ (b : ℕ) (bs : Text) (no_run : IsNoRun b) (no_quote : b ≢ 34) where
  sign_of : (k : ℕ) (s : Sign) → lookup signs (b ∷ take k bs) ≡ Some s → is_piece (b ∷ take k bs) ≡ true
  sign_of k s e = sign_piece b (take k bs) no_run no_quote ∙ listed_is signs (b ∷ take k bs) ∙ ap is_some e

  no_sign : (k : ℕ) → lookup signs (b ∷ take k bs) ≡ None → is_piece (b ∷ take k bs) ≡ false
  no_sign k e = sign_piece b (take k bs) no_run no_quote ∙ listed_is signs (b ∷ take k bs) ∙ ap is_some e

  -- and has two bytes at most
  longer_sign : NoneLonger 2 (b ∷ bs)
  longer_sign zero past fits = absurd (omega arith)
  longer_sign (suc k) past fits = sign_piece b (take k bs) no_run no_quote ∙ long_row 2 signs (b ∷ take k bs) refl (omega (arith, length-take k bs))

  longer_narrow : lookup signs (b ∷ take 1 bs) ≡ None → NoneLonger 1 (b ∷ bs)
  longer_narrow none k past fits = elim (cases_eq k 2) [
    | inl e ↦ rw e (no_sign 1 none)
    | inr ne ↦ longer_sign k (omega arith) fits
  ]

  longer_none : lookup signs (b ∷ take 1 bs) ≡ None → lookup signs (b ∷ []) ≡ None → NoneLonger 0 (b ∷ bs)
  longer_none wide narrow k past fits = elim (cases_eq k 1) [
    | inl e ↦ rw e (no_sign 0 narrow)
    | inr ne ↦ longer_narrow wide k (omega arith) fits
  ]

  pub longest_narrow : (s : Sign) → lookup signs (b ∷ take 1 bs) ≡ None → lookup signs (b ∷ []) ≡ Some s → longest (b ∷ bs) ≡ 1
  longest_narrow s wide narrow = longest_is 1 (b ∷ bs) (omega arith) (omega arith) (sign_of 0 s narrow) (longer_narrow wide)

  pub longest_none : lookup signs (b ∷ take 1 bs) ≡ None → lookup signs (b ∷ []) ≡ None → longest (b ∷ bs) ≡ 0
  longest_none wide narrow = longest_no (b ∷ bs) (longer_none wide narrow)

  pub longest_wide : (s : Sign) → lookup signs (b ∷ take 1 bs) ≡ Some s → longest (b ∷ bs) ≡ suc (length (take 1 bs))
  longest_wide s wide =
      let n = length (take 1 bs) in
      let size = length-take 1 bs in
      longest_is (suc n) (b ∷ bs) (omega arith) (omega arith) (rw (front_same bs) (sign_of 1 s wide)) (λ k past fits. longer_sign k (omega arith) fits)
