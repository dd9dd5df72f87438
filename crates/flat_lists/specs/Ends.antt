-- Lists that stand one after another in one list, by the places where they end.
use Rattle.std.specs.Prelude.{◌≡◌, ◌≤◌, ℕ, List, [], ◌∷◌}
use Rattle.std.specs.List.{between}

-- the lists in xs that end at these places; the first one begins at the place `from`
abbrev pub lists_from : {X : Type 0} → ℕ → List ℕ → List X → List (List X)
lists_from from [] xs = []
lists_from from (e ∷ es) xs = between from e xs ∷ lists_from e es xs

-- the places do not fall, from `from` on, and the last one is n
abbrev pub AreEnds : ℕ → List ℕ → ℕ → Type 0
AreEnds from [] n = from ≡ n
AreEnds from (e ∷ es) n = (from ≤ e) × AreEnds e es n
