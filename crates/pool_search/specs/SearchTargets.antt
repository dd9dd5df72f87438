-- Which configurations a search looks for, and what its results claim, in terms of the transition relation.
use Rattle.std.specs.Prelude.{◌≡◌, ◌<◌, ◌≤◌, ◌⊎◌, ℕ, List, length, Some, Bool, true, false}
use Rattle.run_types.specs.declared.types.Label.{Label}
use Rattle.pool_syntax.specs.Terms.{ProgramTree}
use Rattle.run_types.specs.Tables.{Each}
use Rattle.pool_relation.specs.Configuration.{Configuration}
use Rattle.pool_relation.specs.Transition.{run, start}
use Rattle.reachability.specs.Search.{IsReached, WaitsAt, IsStuck, IsUnfinished, IsFaulty, in_order}
use Rattle.search_laws.specs.Dead.{IsDead, HasDead, CanGoOn}
use Rattle.search_laws.specs.PutOff.{IsWholeByChoices}
use Rattle.pool_search.specs.declared.queries.Target.{Target}
use Rattle.pool_search.specs.declared.queries.Target.TheVariants as W
use Rattle.pool_search.specs.declared.queries.Query.{Query}

-- whether the search looks for a stuck configuration
abbrev pub wants_stuck : Target → Bool
wants_stuck W.Stuck = true
wants_stuck W.Fault = false
wants_stuck W.Both = true

-- whether the search looks for a run-time error
abbrev pub wants_fault : Target → Bool
wants_fault W.Stuck = false
wants_fault W.Fault = true
wants_fault W.Both = true

-- the configuration counts as stuck: an object is dead; with `all`, each unfinished configuration counts too
abbrev pub CountsAsStuck : Bool → ProgramTree → Configuration → Type 0
CountsAsStuck false p c = HasDead p c
CountsAsStuck true p c = IsUnfinished p c ⊎ HasDead p c

-- the configuration counts as stuck, and the query looks for that
pub record IsWantedStuck (p : ProgramTree) (q : Query) (c : Configuration) : Type 0 where
  pub asked : wants_stuck q.wanted ≡ true
  pub holds : CountsAsStuck q.all p c

-- no label is possible, and an object is at a call or in one; with `all`, the configuration is unfinished
abbrev pub IsStuckEnd : Bool → ProgramTree → Configuration → Type 0
IsStuckEnd false p c = IsStuck p c
IsStuckEnd true p c = IsUnfinished p c

-- the configuration is such an end, and the query looks for that
pub record IsWantedEnd (p : ProgramTree) (q : Query) (c : Configuration) : Type 0 where
  pub asked : wants_stuck q.wanted ≡ true
  pub holds : IsStuckEnd q.all p c

-- each of these objects, of which there is at least one, is dead, and the query looks for that
pub record IsWantedDead (p : ProgramTree) (q : Query) (names : List ℕ) (c : Configuration) : Type 0 where
  pub asked : wants_stuck q.wanted ≡ true
  pub some : 0 < length names
  pub dead : Each (IsDead p c) names

-- the configuration has an object with a run-time error, and the query looks for that
pub record IsWantedFault (q : Query) (c : Configuration) : Type 0 where
  pub asked : wants_fault q.wanted ≡ true
  pub holds : IsFaulty c

-- the same, and it is no end that the query looks for, which comes first
pub record IsShownFault (p : ProgramTree) (q : Query) (c : Configuration) : Type 0 where
  pub fault : IsWantedFault q c
  pub no_end : ¬ (IsWantedEnd p q c)

-- the query does not look for this configuration
pub record IsUnwanted (p : ProgramTree) (q : Query) (c : Configuration) : Type 0 where
  pub not_stuck : ¬ (IsWantedStuck p q c)
  pub not_faulty : ¬ (IsWantedFault q c)

-- the labels lead from the start, where the root has the name 0, to a configuration with property P
pub record LeadsTo (p : ProgramTree) (ls : List Label) (P : Configuration → Type 0) : Type 0 where
  pub first : Configuration
  pub last : Configuration
  pub starts : start p 0 ≡ Some first
  pub leads : run p first ls ≡ Some last
  pub holds : P last

-- the same, and the labels give new objects the names 1, 2, .. in order
abbrev pub LeadsInOrder : ProgramTree → List Label → (Configuration → Type 0) → Type 0
LeadsInOrder p ls P = LeadsTo p ls P × (in_order 1 ls ≡ true)

-- there is a list of k configurations that the steps of a search do not leave, and that puts off no label for ever
pub record HasWholeList (p : ProgramTree) (k : ℕ) : Type 0 where
  pub list : List (ℕ × Configuration)
  pub whole : IsWholeByChoices p list
  pub count : length list ≡ k

-- No run leads to a configuration that the query looks for. If it looks for stuck ones, each object that waits in a
-- reached configuration can go on by some run. A whole list of k configurations exists.
pub record IsFinite (p : ProgramTree) (q : Query) (k : ℕ) : Type 0 where
  pub never : (d : Configuration) → IsReached p d → IsUnwanted p q d
  pub goes_on : wants_stuck q.wanted ≡ true → (d : Configuration) (o : ℕ) → IsReached p d → WaitsAt p d o → CanGoOn p d o
  pub kept : HasWholeList p k
  pub within : k ≤ q.most
