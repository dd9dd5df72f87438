-- Which configuration of the transition relation a row of numbers represents, given the table of object states and the lists
-- of messages, and what was written, given the lists of items.
use Rattle.std.specs.Prelude.{◌≡◌, ◌<◌, ℕ, suc, List, [], ◌∷◌, map, length, get_or, IsTrue}
use Rattle.std.specs.FinMap.Entries.{is_sorted}
use Rattle.std.specs.List.{All}
use Rattle.pool_syntax.specs.Terms.{ProgramTree}
use Rattle.run_types.specs.declared.types.Item.{Item}
use Rattle.run_types.specs.Message.{Message}
use Rattle.run_types.specs.Tables.{Pair, pair_cmp}
use Rattle.pool_relation.specs.Action.{Object}
use Rattle.pool_relation.specs.Configuration.{Configuration}
use Rattle.pool_semantics.specs.Sound.{Sound}
use Rattle.search_laws.specs.Outcomes.{Passed}
use Rattle.object_moves.specs.Rows.{objects_from, AreWithin}
use Rattle.visited_set.specs.declared.numbered.Queue.{Queue}
use Rattle.visited_set.specs.Rows.{Row}

-- the objects have the names o, o + 1, ..
abbrev pub AreNamedFrom : ℕ → List (ℕ × Object) → Type 0
AreNamedFrom o [] = Unit {0}
AreNamedFrom o (e ∷ es) = (e.0 ≡ o) × AreNamedFrom (suc o) es

-- the messages of a queue, with its sender and receiver, if ms are the lists of messages
abbrev pub queue_messages : List (List Message) → Queue → Pair × List Message
queue_messages ms q = ((q.sender, q.receiver), get_or ms q.mails [])

-- each queue has the number of one of these lists
abbrev pub AreListed : List (List Message) → List Queue → Type 0
AreListed ms qs = All (λ q. q.mails < length ms) qs

-- the configuration, if xs are the object states and ms the lists of messages
abbrev pub numbered : List Object → List (List Message) → Row → Configuration
numbered xs ms e = record { objects = objects_from 0 xs e.objects; messages = map (queue_messages ms) e.queues }

-- the same, with its next free name, and what was written, if ws are the lists
abbrev pub passed : List Object → List (List Message) → List (List Item) → Row → Passed
passed xs ms ws e = record { next = e.next; items = get_or ws e.written []; configuration = numbered xs ms e }

-- the tables have each number, the queues are in order, and the configuration is typed
pub record EntryInvariant (p : ProgramTree) (xs : List Object) (ms : List (List Message)) (e : Row) : Type 0 where
  pub within : AreWithin xs e.objects
  pub listed : AreListed ms e.queues
  pub sorted : IsTrue (is_sorted pair_cmp (map (queue_messages ms) e.queues))
  pub sound : ∥ Sound p (numbered xs ms e) ∥₁

-- its number of a list is one of these lists
abbrev pub IsNamed : List (List Item) → Row → Type 0
IsNamed ws e = e.written < length ws
