-- Pairs of digits that are read one after another.
use Rattle.std.proofs.Common.{◌≡◌, refl, sym, ap, ◌∙◌, ℕ, List, [], ◌∷◌, ◌++◌, append_assoc, Option, Some, None}
use Rattle.std.specs.Option.{option_map}
use Rattle.run_types.specs.Partial.{◌>>=◌}
use Rattle.text_scan.specs.Text.{Text}
use Rattle.station_text.specs.Digits.{byte_of, bytes_of_digits}

-- these bytes, and those of the rest of the digits
abbrev pub with_rest : List ℕ → Text → Option (List ℕ)
with_rest bytes rest = option_map (λ more. bytes ++ more) (bytes_of_digits rest)

-- one pair more is read
pub pair_more : (bytes : List ℕ) (a b byte : ℕ) (rest : Text) → byte_of a b ≡ Some byte → with_rest (bytes ++ byte ∷ []) rest ≡ with_rest bytes (a ∷ b ∷ rest)
pair_more bytes a b byte rest e = by (bytes_of_digits rest) ∙ ap (λ o. option_map (λ more. bytes ++ more) (o >>= λ x. bytes_of_digits rest >>= λ xs. Some (x ∷ xs))) (sym e)
  where
    by : (o : Option (List ℕ)) → option_map (λ more. (bytes ++ byte ∷ []) ++ more) o ≡ option_map (λ more. bytes ++ more) (o >>= λ xs. Some (byte ∷ xs))
    by None = refl
    by (Some xs) = ap (λ (ys : List ℕ). Some ys) (append_assoc bytes (byte ∷ []) xs)

-- a pair that is no byte
pub pair_none : (bytes : List ℕ) (a b : ℕ) (rest : Text) → byte_of a b ≡ None → with_rest bytes (a ∷ b ∷ rest) ≡ None
pair_none bytes a b rest e = ap (λ o. option_map (λ more. bytes ++ more) (o >>= λ x. bytes_of_digits rest >>= λ xs. Some (x ∷ xs))) e
