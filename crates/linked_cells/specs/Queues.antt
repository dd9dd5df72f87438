-- Doubly linked queues of cells, represented by the lists of their cells' numbers.
use Rattle.std.specs.Prelude.{◌≡◌, ℕ, zero, suc, ◌+◌, ◌<◌, ◌≤◌, cond, eqb, ltb, List, [], ◌∷◌, ◌++◌, length, set, get_or, Option, Some, None, option_map}
use denote.RawPtr.{Ptr}
use Rattle.linked_cells.specs.Slots.{Grid, place_at}
use Rattle.linked_cells.specs.declared.queue.Cell.{Cell}
use Rattle.linked_cells.specs.declared.queue.Queue.{Queue}

module _ {X : Type 0} where
  -- the next pointer in the cell with the number i, if the cell is filled
  abbrev pub next_of : List (Option (Cell X)) → ℕ → Option Ptr
  next_of slots i = option_map (λ (c : Cell X). c.next) (get_or slots i None)

  -- the previous pointer in it
  abbrev pub previous_of : List (Option (Cell X)) → ℕ → Option Ptr
  previous_of slots i = option_map (λ (c : Cell X). c.previous) (get_or slots i None)

  -- the value in it
  abbrev pub value_of : List (Option (Cell X)) → ℕ → Option X
  value_of slots i = option_map (λ (c : Cell X). c.value) (get_or slots i None)

  -- the slots after the next pointer of the cell with the number i was set
  abbrev pub with_next : List (Option (Cell X)) → ℕ → Ptr → List (Option (Cell X))
  with_next slots i p = set slots i (option_map (λ (c : Cell X). record c { next = p }) (get_or slots i None))

  -- the slots after its previous pointer was set
  abbrev pub with_previous : List (Option (Cell X)) → ℕ → Ptr → List (Option (Cell X))
  with_previous slots i p = set slots i (option_map (λ (c : Cell X). record c { previous = p }) (get_or slots i None))

  -- the slots after both its pointers were set
  abbrev pub with_links : List (Option (Cell X)) → ℕ → Ptr → Ptr → List (Option (Cell X))
  with_links slots i p n = set slots i (option_map (λ (c : Cell X). record c { previous = p; next = n }) (get_or slots i None))

  -- the slots after the next pointer of the cell at `previous` was set, if a cell is before the place
  abbrev pub joined_next : (Ptr → ℕ) → List (Option (Cell X)) → ℕ → Ptr → Ptr → List (Option (Cell X))
  joined_next number slots before previous next = cond (eqb before 0) slots (with_next slots (number previous) next)

  -- the slots after the previous pointer of the cell at `next` was set, if a cell is after the place
  abbrev pub joined_previous : (Ptr → ℕ) → List (Option (Cell X)) → ℕ → Ptr → Ptr → List (Option (Cell X))
  joined_previous number slots after previous next = cond (eqb after 0) slots (with_previous slots (number next) previous)

-- from the pointer p, the links g lead through the cells with these numbers
abbrev pub Trail : (ℕ → Ptr) → (ℕ → Option Ptr) → Ptr → List ℕ → Type 0
Trail at g p [] = Unit {0}
Trail at g p (x ∷ xs) = (n : Ptr) × (p ≡ at x) × (g x ≡ Some n) × Trail at g n xs

-- the list in reverse
abbrev pub turned : {X : Type 0} → List X → List X
turned [] = []
turned (x ∷ xs) = turned xs ++ x ∷ []

-- how often a number is in a list
abbrev pub times : ℕ → List ℕ → ℕ
times a [] = 0
times a (x ∷ xs) = cond (eqb a x) 1 0 + times a xs

-- how often a number is in lists
abbrev pub total : ℕ → List (List ℕ) → ℕ
total a [] = 0
total a (xs ∷ xss) = times a xs + total a xss

-- no number is twice in the list
abbrev pub IsDistinct : List ℕ → Type 0
IsDistinct xs = (a : ℕ) → times a xs ≤ 1

module _ {X : Type 0} where
  -- the queue consists of the cells with these numbers, linked both ways
  abbrev pub IsQueue : (ℕ → Ptr) → List (Option (Cell X)) → Queue X → List ℕ → Type 0
  IsQueue at slots q xs = (q.len ≡ length xs) × Trail at (next_of slots) q.first.ptr xs × Trail at (previous_of slots) q.last.ptr (turned xs)

  -- the cell at p has the number c and is the i-th of the queue, between the cells xs and ys
  abbrev pub IsNth : (ℕ → Ptr) → List (Option (Cell X)) → Queue X → ℕ → Ptr → List ℕ → ℕ → List ℕ → Type 0
  IsNth at slots q i p xs c ys = IsQueue at slots q (xs ++ c ∷ ys) × (i ≡ length xs) × (p ≡ at c) × IsDistinct (xs ++ c ∷ ys)

  -- the i-th cell of the queue is at p
  abbrev pub IsNthOf : Grid → List (Option (Cell X)) → Queue X → ℕ → Ptr → Type 0
  IsNthOf g slots q i p = (xs : List ℕ) × (c : ℕ) × (ys : List ℕ) × IsNth (place_at g) slots q i p xs c ys

  -- the cell at p has the number c and is not in the queue, whose cells are xs
  abbrev pub IsLoose : (ℕ → Ptr) → List (Option (Cell X)) → Queue X → Ptr → List ℕ → ℕ → Type 0
  IsLoose at slots q p xs c = IsQueue at slots q xs × IsDistinct xs × (p ≡ at c) × (c < length slots) × (times c xs ≡ 0)

  -- the cell at p is not in the queue
  abbrev pub IsLooseOf : Grid → List (Option (Cell X)) → Queue X → Ptr → Type 0
  IsLooseOf g slots q p = (xs : List ℕ) × (c : ℕ) × IsLoose (place_at g) slots q p xs c

  -- only the cells xs have changed
  abbrev pub SameBut : List ℕ → List (Option (Cell X)) → List (Option (Cell X)) → Type 0
  SameBut xs old new = (length new ≡ length old) × ((x : ℕ) → times x xs ≡ 0 → get_or new x None ≡ get_or old x None)

  -- every cell has the value that it had
  abbrev pub SameValues : List (Option (Cell X)) → List (Option (Cell X)) → Type 0
  SameValues old new = (x : ℕ) → value_of new x ≡ value_of old x

  -- the cell c joined the queue xs with the value v: only their cells have changed, and no other value
  abbrev pub ComesIn : ℕ → X → List ℕ → List (Option (Cell X)) → List (Option (Cell X)) → Type 0
  ComesIn c v xs old new = SameBut (c ∷ xs) old new × (value_of new c ≡ Some v) × ((x : ℕ) → (x ≡ c → ⊥) → value_of new x ≡ value_of old x)

  -- each queue consists of the cells of its list
  abbrev pub AreQueues : (ℕ → Ptr) → List (Option (Cell X)) → List (Queue X) → List (List ℕ) → Type 0
  AreQueues at slots [] [] = Unit {0}
  AreQueues at slots [] (xs ∷ xss) = ⊥
  AreQueues at slots (q ∷ qs) [] = ⊥
  AreQueues at slots (q ∷ qs) (xs ∷ xss) = IsQueue at slots q xs × AreQueues at slots qs xss

  -- the values of n cells from the pointer p on
  abbrev pub contents_from : (Ptr → ℕ) → List (Option (Cell X)) → ℕ → Ptr → List X
  contents_from index slots zero p = []
  contents_from index slots (suc n) p = elim (get_or slots (index p) None) as (λ _. List X) [ None ↦ [] | Some c ↦ c.value ∷ contents_from index slots n c.next ]

  -- the values of a queue
  abbrev pub contents : (Ptr → ℕ) → List (Option (Cell X)) → Queue X → List X
  contents index slots q = contents_from index slots q.len q.first.ptr

-- each cell is in at most one queue, and in none if it was never used
abbrev pub AreApart : ℕ → List (List ℕ) → Type 0
AreApart fresh xss = (a : ℕ) → total a xss ≤ cond (ltb a fresh) 1 0
