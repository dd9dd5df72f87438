-- The cycles of calls: objects of which each calls the next, and the last calls the first.
use Rattle.std.specs.Prelude.{◌≡◌, ◌⊎◌, ℕ, ◌<◌, List, [], ◌∷◌, length, Option, Some, None, filter_map}
use Rattle.run_types.specs.Partial.{◌>>=◌}
use Rattle.mesh_semantics.specs.Language.{Language}
use Rattle.mesh_semantics.specs.Config.{Config, object_of}
use Rattle.mesh_semantics.specs.Delay.{Delay}
use Rattle.run_types.specs.PathFacts.{Once}
use Rattle.mesh_semantics.specs.Standing.{Standing, Calls, standing, chase}

-- the object that is called
abbrev pub called_in : Standing → Option ℕ
called_in (Calls b m) = Some b
called_in _ = None

abbrev pub called_by : {S : Type 0} → Language S → Config S → Delay → ℕ → Option ℕ
called_by g c d o = object_of c o >>= λ x. called_in (standing g d o x)

-- From o on, each object calls the next, and each later one is above the first name. The last calls the first.
abbrev pub Closes : (ℕ → Option ℕ) → ℕ → List ℕ → Type 0
Closes calls first [] = ⊥
Closes calls first (o ∷ []) = calls o ≡ Some first
Closes calls first (o ∷ b ∷ ns) = (calls o ≡ Some b) × (first < b) × Closes calls first (b ∷ ns)

-- a cycle of calls: distinct names, the least first, of which each calls the next, and the last calls the first
abbrev pub IsCycle : (ℕ → Option ℕ) → List ℕ → Type 0
IsCycle calls [] = ⊥
IsCycle calls (o ∷ ns) = Once (o ∷ ns) × Closes calls o (o ∷ ns)

-- the cycles, each from its least name on, in rising order of that name
abbrev pub cycles : {S : Type 0} → Language S → Config S → Delay → List (List ℕ)
cycles g c d = filter_map (λ e. chase (called_by g c d) (length c.objects) e.0 e.0) c.objects

-- the list of names is an element of the list
abbrev pub Contained : List ℕ → List (List ℕ) → Type 0
Contained ns [] = ⊥
Contained ns (ms ∷ rest) = (ms ≡ ns) ⊎ Contained ns rest
