-- What is known of the objects that wait in calls in the entries of a search.
use Rattle.std.specs.Prelude.{◌≡◌, ◌⊎◌, ℕ, List, Some, true, false, slice_get}
use Rattle.run_types.specs.Tables.{Each}
use Rattle.pool_syntax.specs.Terms.{ProgramTree}
use Rattle.pool_relation.specs.Configuration.{Configuration}
use Rattle.reachability.specs.Search.{WaitsAt}
use Rattle.search_laws.specs.Outcomes.{Passed}
use Rattle.search_laws.specs.Dead.{CanGoOn}
use Rattle.visited_set.specs.WaiterLists.{HasWaiter}
use Rattle.visited_set.specs.declared.waiters.Waiter.{Waiter}
use Rattle.pool_search.specs.Progress.{Entries}

-- if the object waits in the configuration, some run goes on with it
abbrev pub IsServed : ProgramTree → Configuration → ℕ → Type 0
IsServed p c o = WaitsAt p c o → CanGoOn p c o

-- where it is noted that the waiter can go on, some run does
abbrev pub IsKnown : ProgramTree → Entries → Waiter → Type 0
IsKnown p es w = w.goes_on ≡ true → (e : Passed) → slice_get es w.entry ≡ Some e → IsServed p e.configuration w.object

-- each object that waits in an entry is a waiter, and what is noted is so
pub record AreKnown (p : ProgramTree) (es : Entries) (ws : List Waiter) : Type 0 where
  pub all : (at : ℕ) (e : Passed) (o : ℕ) → slice_get es at ≡ Some e → WaitsAt p e.configuration o → HasWaiter true at o ws ⊎ HasWaiter false at o ws
  pub each : Each (IsKnown p es) ws
