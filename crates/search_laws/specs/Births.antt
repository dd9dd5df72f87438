-- A creation that comes first in a run in place of where it comes.
use Rattle.std.specs.Prelude.{◌≡◌, ◌<◌, ℕ, suc, List, ◌∷◌, ◌++◌, map, Some, true}
use Rattle.run_types.specs.declared.types.NameId.{NameId}
use Rattle.run_types.specs.declared.types.Label.{Label}
use Rattle.run_types.specs.declared.types.Label.TheVariants as L
use Rattle.pool_syntax.specs.Terms.{ProgramTree}
use Rattle.pool_relation.specs.Configuration.{Configuration}
use Rattle.pool_relation.specs.Transition.{transition, run}
use Rattle.reachability.specs.Search.{in_order}
use Rattle.search_laws.specs.Renamed.{Renaming, renamed_label, IsRenamed}

-- From y a run with these labels, under other names, leads to d under these names. It names new objects in order, of
-- which n + 1 is the first, and the names below n stay.
pub record Advanced (p : ProgramTree) (n : ℕ) (d y : Configuration) (ls : List Label) : Type 0 where
  pub names : Renaming
  pub keeps : (q : ℕ) → q < n → names.to q ≡ q
  pub to : Configuration
  pub same : IsRenamed names.to d to
  pub orders : in_order (suc n) (map (renamed_label names.to) ls) ≡ true
  pub leads : run p y (map (renamed_label names.to) ls) ≡ Some to

-- A run with these labels leads to d, and y comes of a creation by o that could come before it. A creation by o is in
-- the run, or is possible behind it. Either way the run without it leads from y to the same under other names.
pub data Brought (p : ProgramTree) (n o : ℕ) (k : NameId) (d y : Configuration) (ls : List Label) : Type 0 where
  Within : (before behind : List Label) (m : ℕ) → ls ≡ before ++ L.New o m k ∷ behind → Advanced p n d y (before ++ behind) → Brought p n o k d y ls
  Behind : (m : ℕ) (z : Configuration) → transition p d (L.New o m k) ≡ Some z → Advanced p n z y ls → Brought p n o k d y ls
