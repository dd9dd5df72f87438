-- Examples: values of the definitions on small tables.
use Rattle.std.proofs.Common.{◌≡◌, ℕ, refl, List, [], ◌∷◌, arith}
use Rattle.pool_relation.specs.Action.{Object}
use Rattle.object_moves.specs.Tables.{known_states}
use Rattle.visited_set.specs.declared.visited.VisitedSet.{VisitedSet}
use Rattle.visited_set.specs.declared.numbered.Queue.{Queue}
use Rattle.visited_set.specs.declared.kept_rows.Head.{Head}
use Rattle.visited_set.specs.Rows.{Row, rows_of}
use Rattle.visited_set.specs.VisitedConfigurations.{entry, kept_list}
use Rattle.visited_set.specs.WrittenLists.{with_nodes}
use Rattle.visited_set.specs.WritingsOf.{lists_of}
use Rattle.run_types.specs.declared.types.Item.{Item}
use Rattle.run_types.specs.Message.{Message}
use Rattle.object_moves.specs.Rows.{objects_from}
use Rattle.visited_set.specs.Numbers.{AreNamedFrom, numbered, passed}

-- three objects, two of them in one state
three_objects : (x y : Object) → objects_from 0 (x ∷ y ∷ []) (1 ∷ 0 ∷ 1 ∷ []) ≡ (0, y) ∷ (1, x) ∷ (2, y) ∷ []
three_objects x y = refl

their_names : (x y : Object) → AreNamedFrom 0 ((0, y) ∷ (1, x) ∷ (2, y) ∷ [])
their_names x y = (refl, (refl, (refl, tt)))

no_such_names : (x : Object) → AreNamedFrom 0 ((1, x) ∷ []) → ⊥
no_such_names x h = absurd (grind (arith, h))

abbrev a_row : ℕ → ℕ → List ℕ → List Queue → Row
a_row n w os qs = record { next = n; written = w; objects = os; queues = qs }

abbrev a_queue : ℕ → ℕ → ℕ → Queue
a_queue s r m = record { sender = s; receiver = r; mails = m }

-- a configuration without messages
two_objects : (x y : Object) (w : List Item) → passed (x ∷ y ∷ []) [] ([] ∷ w ∷ []) (a_row 2 1 (0 ∷ 1 ∷ []) []) ≡ entry 2 w (record { objects = (0, x) ∷ (1, y) ∷ []; messages = [] })
two_objects x y w = refl

-- two messages from the object 3 to the object 4, and one back
two_queues : (m n : Message) (xs : List Object) → (numbered xs ((m ∷ []) ∷ (m ∷ n ∷ []) ∷ []) (a_row 0 0 [] (a_queue 3 4 1 ∷ a_queue 4 3 0 ∷ []))).messages ≡ ((3, 4), m ∷ n ∷ []) ∷ ((4, 3), m ∷ []) ∷ []
two_queues m n xs = refl

-- what stands after the last head is no row; an object has the state 70,000, and another one the state 7
two_rows : (h : Head) (os : List ℕ) (q qs rs : List Queue) → rows_of (h ∷ []) ((65535 ∷ 1 ∷ 4464 ∷ 7 ∷ []) ∷ os ∷ []) (q ∷ qs ∷ rs ∷ []) ≡ a_row h.next h.written (70000 ∷ 7 ∷ []) q ∷ []
two_rows h os q qs rs = refl

-- the list of two
two_kept : (k : VisitedSet) (xs : List Object) (ws : List (List Item)) (d e : Row) → known_states k.moves ≡ xs → lists_of k.writings ≡ ws → k.rows ≡ d ∷ e ∷ []
    → kept_list k ≡ passed xs k.mails ws d ∷ passed xs k.mails ws e ∷ []
two_kept k xs ws d e s l f = rw (s, l, f) refl

-- three lists: nothing, an item, and another item after it
three_lists : (a b : Item) → with_nodes ([] ∷ []) (record { before = 0; item = a } ∷ record { before = 1; item = b } ∷ []) ≡ [] ∷ (a ∷ []) ∷ (a ∷ b ∷ []) ∷ []
three_lists a b = refl
