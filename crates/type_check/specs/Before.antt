-- The names of the entries before a place of a list, with the latest first.
use Rattle.std.specs.Prelude.{ℕ, List, [], ◌∷◌}

-- the names of these entries, with the latest first, followed by `names`
abbrev pub names_before : {A : Type 0} → (A → ℕ) → List ℕ → List A → List ℕ
names_before key names [] = names
names_before key names (x ∷ xs) = names_before key (key x ∷ names) xs
