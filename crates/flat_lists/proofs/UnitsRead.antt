-- Numbers that are written as units are read back.
use Rattle.std.proofs.Common.{◌≡◌, refl, ap, sym, ◌∙◌, ℕ, ◌+◌, ◌*◌, ◌<◌, ◌≤◌, List, [], ◌∷◌, ◌++◌, length, get_or, drop, Bool, true, false, arith, append_assoc}
use Rattle.std.specs.Prelude.{◌==◌, nat_lt}
use Rattle.std.proofs.lemmas.List.{drop_more, drop_all, append-nil}
use Rattle.flat_lists.specs.Units.{numbers_of, units_of}

-- the units of a list
abbrev pub all_units : List ℕ → List ℕ
all_units [] = []
all_units (n ∷ ns) = units_of n ++ all_units ns

pub one_unit : (u : ℕ) (us : List ℕ) → (u == 65535) ≡ false → numbers_of (u ∷ us) ≡ u ∷ numbers_of us
one_unit u [] h = rw h refl
one_unit u (i ∷ []) h = rw h refl
one_unit u (i ∷ j ∷ us) h = rw h refl

pub two_halves : (h l : ℕ) (us : List ℕ) → numbers_of (65535 ∷ h ∷ l ∷ us) ≡ (h * 65536 + l) ∷ numbers_of us
two_halves h l us = refl

pub no_halves : (h : ℕ) → numbers_of (65535 ∷ h ∷ []) ≡ []
no_halves h = refl

written_number : (n : ℕ) (us : List ℕ) → numbers_of (units_of n ++ us) ≡ n ∷ numbers_of us
written_number n us = by (nat_lt n 65535) refl
  where
    by : (b : Bool) → nat_lt n 65535 ≡ b → numbers_of (units_of n ++ us) ≡ n ∷ numbers_of us
    by true h = rw h (one_unit n us (grind (arith, h)))
    by false h = rw h (ap (λ m. m ∷ numbers_of us) (omega arith))

-- what was written is read
pub written_read : (ns : List ℕ) → numbers_of (all_units ns) ≡ ns
written_read [] = refl
written_read (n ∷ ns) = written_number n (all_units ns) ∙ ap (λ ms. n ∷ ms) (written_read ns)

pub one_more : (ns us vs : List ℕ) (i n : ℕ) → i < length ns → get_or ns i 0 ≡ n → vs ≡ us ++ units_of n → us ++ all_units (drop i ns) ≡ all_units ns → vs ++ all_units (drop (i + 1) ns) ≡ all_units ns
one_more ns us vs i n l at grown front =
    ap (λ xs. xs ++ all_units (drop (i + 1) ns)) grown ∙ append_assoc us (units_of n) (all_units (drop (i + 1) ns))
    ∙ ap (λ m. us ++ (units_of m ++ all_units (drop (i + 1) ns))) (sym at) ∙ ap (λ xs. us ++ all_units xs) (sym (drop_more ns i 0 l)) ∙ front

-- nothing is left
pub all_read : (ns us : List ℕ) (i : ℕ) → length ns ≤ i → us ++ all_units (drop i ns) ≡ all_units ns → numbers_of us ≡ ns
all_read ns us i l front = ap numbers_of (sym (append-nil us) ∙ ap (λ xs. us ++ all_units xs) (sym (drop_all i ns l)) ∙ front) ∙ written_read ns
