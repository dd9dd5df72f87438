-- Dead objects: an object is dead if it waits in a call and no run from here has a transition that changes it.
use Rattle.std.specs.Prelude.{◌≡◌, ℕ, List, [], ◌∷◌, Some, Bool, true, false, ◌||◌, ◌==◌}
use Rattle.run_types.specs.declared.types.Label.{Label}
use Rattle.run_types.specs.declared.types.Label.TheVariants as L
use Rattle.pool_syntax.specs.Terms.{ProgramTree}
use Rattle.pool_relation.specs.Configuration.{Configuration}
use Rattle.pool_relation.specs.Transition.{run}
use Rattle.reachability.specs.Search.{WaitsAt}

-- a transition with this label changes the object o
abbrev pub changes : ℕ → Label → Bool
changes o (L.Local q) = q == o
changes o (L.New q n k) = q == o
changes o (L.Answer b q m args) = b == o || q == o
changes o (L.Return b q v) = b == o || q == o
changes o (L.Send q b m args) = q == o
changes o (L.Take b s m args) = b == o
changes o (L.Write q item) = q == o
changes o (L.Pick q i) = q == o
changes o (L.Fault q e) = q == o

-- a transition with one of these labels changes it
abbrev pub some_changes : ℕ → List Label → Bool
some_changes o [] = false
some_changes o (l ∷ ls) = changes o l || some_changes o ls

-- the object o has met no error and is at a call or in one, and no run from here has a transition that changes it
pub record IsDead (p : ProgramTree) (c : Configuration) (o : ℕ) : Type 0 where
  pub waits : WaitsAt p c o
  pub never : (d : Configuration) (ls : List Label) → run p c ls ≡ Some d → some_changes o ls ≡ false

-- some object is dead
pub record HasDead (p : ProgramTree) (c : Configuration) : Type 0 where
  pub name : ℕ
  pub dead : IsDead p c name

-- some run from here has a transition that changes the object o
pub record CanGoOn (p : ProgramTree) (c : Configuration) (o : ℕ) : Type 0 where
  pub last : Configuration
  pub labels : List Label
  pub leads : run p c labels ≡ Some last
  pub changed : some_changes o labels ≡ true
