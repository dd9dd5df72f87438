-- The lists of the shared queues that have messages to each slot.
use Rattle.std.specs.Prelude.{◌≡◌, ℕ, zero, suc, ◌+◌, ◌<◌, ◌==◌, ◌&&◌, ltb, cond, Bool, true, List, [], ◌∷◌, ◌++◌, length, get_or, set, Option, Some, None}
use Rattle.std.specs.List.{list_any}
use Rattle.run_types.specs.declared.types.NameId.{NameId}
use Rattle.cell_pool.specs.Lists.{Pool, lengths}
use Rattle.slot_queues.specs.declared.lanes.Stamped.{Stamped}
use Rattle.slot_queues.specs.declared.lanes.Lanes.{Lanes}
use Rattle.slot_queues.specs.Lanes.{shared}
use Rattle.slot_queues.specs.Mail.{is_named}

-- whether the queue is in the list
abbrev pub is_in : ℕ → List ℕ → Bool
is_in q qs = list_any (λ j. j == q) qs

-- queue q, if it has messages, is in the list of their slot
abbrev pub IsHeld : List (List ℕ) → ℕ → List Stamped → Type 0
IsHeld waiting q [] = Unit {0}
IsHeld waiting q (x ∷ xs) = is_in q (get_or waiting x.to []) ≡ true

-- 1 for a queue that has messages
abbrev pub used : List Stamped → ℕ
used [] = 0
used (x ∷ xs) = 1

-- how many of the first n queues have messages
abbrev pub used_of : ℕ → List (List Stamped) → ℕ
used_of zero l = 0
used_of (suc n) [] = 0
used_of (suc n) (xs ∷ l) = used xs + used_of n l

-- each of the first n queues that has messages is in the list of their slot, and the lists have room for all of them
pub record IsListed (n : ℕ) (l : List (List Stamped)) (waiting : Pool ℕ) : Type 0 where
  pub slots : n + length waiting.lists ≡ length l
  pub cells : waiting.cells ≡ n
  pub held : (q : ℕ) → q < n → IsHeld waiting.lists q (get_or l q [])
  pub sum : lengths waiting.lists ≡ used_of n l

abbrev pub IsListedIn : Lanes → Type 0
IsListedIn l = IsListed (shared l.cells) l.pool.lists l.waiting

-- a shared queue got a message to a slot as its last one; before, the lists were right, and its messages were to that
-- slot
pub record IsPosted (l : Lanes) (queue to : ℕ) : Type 0 where
  pub former : List Stamped
  pub last : Stamped
  pub within : queue < shared l.cells
  pub slot : to < length l.waiting.lists
  pub is : get_or l.pool.lists queue [] ≡ former ++ last ∷ []
  pub last_to : last.to ≡ to
  pub same : (x : Stamped) (xs : List Stamped) → former ≡ x ∷ xs → x.to ≡ to
  pub listed : IsListed (shared l.cells) (set l.pool.lists queue former) l.waiting

-- a message to a slot was removed from a shared queue; before, its messages were to that slot, and the lists were right
pub record IsRemoved (l : Lanes) (queue to : ℕ) : Type 0 where
  pub first : Stamped
  pub rest : List Stamped
  pub within : queue < shared l.cells
  pub first_to : first.to ≡ to
  pub same : (x : Stamped) (xs : List Stamped) → get_or l.pool.lists queue [] ≡ x ∷ xs → x.to ≡ to
  pub listed : IsListed (shared l.cells) (set l.pool.lists queue (first ∷ rest)) l.waiting

-- the stamp of the front message of a queue, if it is to the slot and its method is one of the names
abbrev pub stamp_if_named : ℕ → List NameId → List Stamped → Option ℕ
stamp_if_named to names [] = None
stamp_if_named to names (x ∷ xs) = cond ((x.to == to) && is_named names x.message.method) (Some x.stamp) None

-- the same for one of the first n queues
abbrev pub named_stamp : List (List Stamped) → ℕ → ℕ → List NameId → ℕ → Option ℕ
named_stamp l n to names q = cond (ltb q n) (stamp_if_named to names (get_or l q [])) None
