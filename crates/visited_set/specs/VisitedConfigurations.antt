-- What contracts see of a visited set: its program, its lists of items, and its configurations in order.
use Rattle.std.specs.Prelude.{ℕ, ◌-◌, ◌^◌, ◌≤◌, ◌⊎◌, List, length, map}
use Rattle.pool_syntax.specs.Terms.{ProgramTree}
use Rattle.pool_relation.specs.Configuration.{Configuration}
use Rattle.run_types.specs.declared.types.Item.{Item}
use Rattle.search_laws.specs.Outcomes.{Passed}
use Rattle.object_moves.specs.Tables.{known_states, table_program}
use Rattle.visited_set.specs.Numbers.{passed}
use Rattle.visited_set.specs.WritingsOf.{lists_of}
use Rattle.visited_set.specs.declared.visited.VisitedSet.{VisitedSet}

-- the program
abbrev pub kept_program : VisitedSet → ProgramTree
kept_program k = table_program k.moves

-- the lists of items, by their numbers
abbrev pub kept_lists : VisitedSet → List (List Item)
kept_lists k = lists_of k.writings

-- the configurations in order, each with its next free name and what was written
abbrev pub kept_list : VisitedSet → List Passed
kept_list k = map (passed (known_states k.moves) k.mails (kept_lists k)) k.rows

-- a configuration with its next free name and what was written
abbrev pub entry : ℕ → List Item → Configuration → Passed
entry n w c = record { next = n; items = w; configuration = c }

-- no number is left for an object state, for a configuration or for a list of messages
abbrev pub IsFull : VisitedSet → Type 0
IsFull k = (2 ^ 32 - 1 ≤ length (known_states k.moves)) ⊎ (2 ^ 32 ≤ length (kept_list k)) ⊎ (2 ^ 32 ≤ length k.mails)
