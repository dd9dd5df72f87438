-- Lists with bounds, as a walk over the entries of a search establishes them.
use Rattle.std.specs.Prelude.{◌≡◌, ◌≤◌, ◌+◌, ◌⊎◌, ℕ, suc, List, [], ◌∷◌, Some, None}
use Rattle.std.specs.List.{filter}
use Rattle.run_types.specs.declared.types.Label.{Label}
use Rattle.pool_syntax.specs.Terms.{ProgramTree}
use Rattle.pool_relation.specs.Configuration.{Configuration}
use Rattle.pool_relation.specs.Transition.{transition, start}
use Rattle.reachability.specs.Search.{after, IsInOrder}
use Rattle.reachability.specs.Labels.{labels_to_try}
use Rattle.search_laws.specs.Stubborn.{IsAwaited, is_served}
use Rattle.search_laws.specs.Bounded.{Bounded, SettlesLower}

module _ (p : ProgramTree) (cost : Label → ℕ) (es : List Bounded) where
  -- the label is possible and leads to lower bounds
  pub record Lowers (n k v : ℕ) (c : Configuration) (l : Label) : Type 0 where
    pub next : Configuration
    pub step : transition p c l ≡ Some next
    pub left : ℕ
    pub owed : ℕ
    pub shorter : suc left ≤ k
    pub cheaper : cost l + owed ≤ v
    pub settles : SettlesLower p cost es (after n l) left owed next

  -- each of these labels is impossible, or leads to lower bounds
  abbrev pub AllLower : ℕ → ℕ → ℕ → Configuration → List Label → Type 0
  AllLower n k v c [] = Unit {0}
  AllLower n k v c (l ∷ ls) = ((transition p c l ≡ None) ⊎ Lowers n k v c l) × AllLower n k v c ls

  -- so does each label to try, or each of those of an awaited object
  pub data IsLoweredHere (n k v : ℕ) (c : Configuration) : Type 0 where
    EachTried : AllLower n k v c (labels_to_try p n c) → IsLoweredHere n k v c
    ThoseTried : (b : ℕ) → IsAwaited p n b c → AllLower n k v c (filter (is_served b) (labels_to_try p n c)) → IsLoweredHere n k v c

  abbrev pub AreLowered : List Bounded → Type 0
  AreLowered [] = Unit {0}
  AreLowered (e ∷ rest) = IsInOrder e.configuration × IsLoweredHere e.next e.length e.cost e.configuration × AreLowered rest

  -- the facts that such a walk has established at its end
  pub record IsTriedBounded (k v : ℕ) : Type 0 where
    pub begins : (c : Configuration) → start p 0 ≡ Some c → SettlesLower p cost es 1 k v c
    pub lowered : AreLowered es
