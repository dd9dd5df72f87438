-- What contracts see of a search: the entries of its visited set, and its program.
use Rattle.std.specs.Prelude.{◌≡◌, ℕ, List, Some, slice_get}
use Rattle.run_types.specs.declared.types.Item.{Item}
use Rattle.pool_syntax.specs.Terms.{ProgramTree}
use Rattle.pool_relation.specs.Configuration.{Configuration}
use Rattle.search_laws.specs.Outcomes.{Passed}
use Rattle.visited_set.specs.VisitedConfigurations.{entry, kept_list, kept_lists, kept_program}
use Rattle.pool_search.specs.declared.explored.Explored.{Explored}
use Rattle.pool_search.specs.declared.queries.Query.{Query}
use Rattle.pool_search.specs.SearchAnswers.{IsPassedBy}
use Rattle.pool_search.specs.Progress.{Entries}

-- the configurations, each with its next free name and what was written before it
abbrev pub entries : Explored → Entries
entries e = kept_list e.kept

-- the lists of items, by their numbers
abbrev pub lists : Explored → List (List Item)
lists e = kept_lists e.kept

-- the program that is searched
abbrev pub searched : Explored → ProgramTree
searched e = kept_program e.kept

-- the entry at this place has this configuration and next name
abbrev pub IsEntryAt : Entries → ℕ → ℕ → Configuration → Type 0
IsEntryAt es at n c = (w : List Item) × (slice_get es at ≡ Some (entry n w c))

-- the configuration of the entry is none that the search shows when it visits it
abbrev pub IsPassedOver : ProgramTree → Query → Passed → Type 0
IsPassedOver p q e = IsPassedBy p q e.configuration
