-- What contracts see of numbered configurations.
use Rattle.std.specs.Prelude.{ℕ, List, [], ◌∷◌}
use Rattle.flat_lists.specs.Units.{numbers_of}
use Rattle.visited_set.specs.declared.numbered.Numbered.{Numbered}
use Rattle.visited_set.specs.declared.numbered.Stored.{Stored}
use Rattle.visited_set.specs.declared.numbered.Queue.{Queue}
use Rattle.visited_set.specs.declared.kept_rows.Head.{Head}

-- the next free name, the number of what was written, the numbers of object states, and the queues
pub record Row : Type 0 where
  pub next : ℕ
  pub written : ℕ
  pub objects : List ℕ
  pub queues : List Queue

abbrev pub row_of : Numbered → Row
row_of e = record { next = e.next; written = e.written; objects = e.objects.now; queues = e.queues.now }

abbrev pub stored_row : Stored → Row
stored_row e = record { next = e.next; written = e.written; objects = numbers_of e.objects.now; queues = e.queues.now }

-- the rows with these heads, units of the objects' numbers, and queues
abbrev pub rows_of : List Head → List (List ℕ) → List (List Queue) → List Row
rows_of (h ∷ hs) (o ∷ os) (q ∷ qs) = record { next = h.next; written = h.written; objects = numbers_of o; queues = q } ∷ rows_of hs os qs
rows_of (h ∷ hs) (o ∷ os) [] = []
rows_of (h ∷ hs) [] qs = []
rows_of [] os qs = []
