-- The facts about the paths of a placement from which all others follow: each path leads to its goal, visits no node
-- twice, and uses only links of the mesh.
use Rattle.std.specs.Prelude.{◌≡◌, ◌≢◌, ◌⊎◌, ℕ, ◌*◌, ◌<◌, List, [], ◌∷◌}
use Rattle.run_types.specs.declared.types.Placement.{Placement}
use Rattle.run_types.specs.Tables.{Pair}
use Rattle.run_types.specs.Paths.{next, path, IsLink, ends_of}

-- the links lead from a to b by these steps, and only the last one ends at b
abbrev pub Leads : (ℕ → ℕ → ℕ) → ℕ → ℕ → List Pair → Type 0
Leads step b a [] = a ≡ b
Leads step b a (k ∷ ks) = (a ≢ b) × (k.0 ≡ a) × (k.1 ≡ step a b) × Leads step b k.1 ks

-- the number is in the list
abbrev pub In : ℕ → List ℕ → Type 0
In n [] = ⊥
In n (x ∷ xs) = (x ≡ n) ⊎ In n xs

-- no number is twice in the list
abbrev pub Once : List ℕ → Type 0
Once [] = Unit {0}
Once (x ∷ xs) = (In x xs → ⊥) × Once xs

-- each path between nodes of the mesh ends at its goal and visits no node twice; each of its steps is over a link
-- that is not cut
pub record Ways (l : Placement) : Type 0 where
  pub leads : (a b : ℕ) → a < l.width * l.height → b < l.width * l.height → Leads (next l) b a (path l a b)
  pub once : (a b : ℕ) → a < l.width * l.height → b < l.width * l.height → Once (a ∷ ends_of (path l a b))
  pub link : (a b : ℕ) → a < l.width * l.height → b < l.width * l.height → a ≢ b → IsLink l (a, next l a b)
