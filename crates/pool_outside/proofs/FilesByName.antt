-- Lemmas on the look-up of a text by its name.
use Rattle.std.proofs.Common.{◌≡◌, ℕ, ◌<◌, List, [], ◌∷◌, length, drop, get_or, Some, true, refl, suc, zero, arith}
use Rattle.std.specs.Str.{bytes_eq}
use Rattle.pool_outside.specs.Memory.{text_under, text_at}

-- the text at a place whose name is the one that is looked for
pub found_at : (texts : List (List ℕ × List ℕ)) (t : List ℕ × List ℕ) (i : ℕ) (name : List ℕ) → i < length texts → t ≡ get_or texts i t → bytes_eq t.0 name ≡ true → Some (text_at texts i) ≡ text_under (drop i texts) name
found_at [] t i name h e k = absurd (omega arith)
found_at (x ∷ xs) t zero name h e k = rw (← e) (rw k refl)
found_at (x ∷ xs) t (suc i) name h e k = found_at xs t i name (omega arith) e k
