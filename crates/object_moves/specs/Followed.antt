-- The transitions that are followed after a label.
use Rattle.std.specs.Prelude.{◌≡◌, ℕ, List, [], ◌∷◌, ◌++◌, Bool, true, false}
use Rattle.run_types.specs.declared.types.Label.{Label}
use Rattle.run_types.specs.Tables.{Each}
use Rattle.pool_syntax.specs.Terms.{ProgramTree}
use Rattle.pool_relation.specs.Configuration.{Configuration}
use Rattle.search_laws.specs.Dead.{some_changes}
use Rattle.search_laws.specs.Tried.{Course, Follows, Stays, GoesBy, states_only, with_writes}

-- those that need no choice, and write nothing if `silent` is true
abbrev pub course : Bool → Course
course true = with_writes
course false = states_only

-- the labels of transitions that are followed
abbrev pub passes : {p : ProgramTree} {k : Course} {c d : Configuration} → Follows p k c d → List Label
passes Stays = []
passes (GoesBy l kind step rest) = l ∷ passes rest

-- one of these labels changes each of these objects
abbrev pub AreChanged : List Label → List ℕ → Type 0
AreChanged ls os = Each (λ o. some_changes o ls ≡ true) os

-- the list of objects grew at its end, by objects that one of these labels changes
abbrev pub HasMoved : List Label → List ℕ → List ℕ → Type 0
HasMoved ls os qs = (added : List ℕ) × (qs ≡ os ++ added) × AreChanged ls added
