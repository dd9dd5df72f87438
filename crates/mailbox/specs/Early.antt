-- A mailbox with early messages: the first messages of each slot, in front of the others.
use Rattle.std.specs.Prelude.{◌≡◌, ℕ, ◌+◌, ◌^◌, ◌<◌, List, [], ◌∷◌, ◌++◌, length}
use Rattle.cell_pool.specs.Lists.{Pool}
use Rattle.slot_queues.specs.declared.Message.{Message}
use Rattle.slot_queues.specs.Mail.{Mail, lengths}

-- each list of the first lists, and behind it the one of the second lists at its place
abbrev pub append_each : {X : Type 0} → List (List X) → List (List X) → List (List X)
append_each [] yss = yss
append_each (xs ∷ xss) [] = xs ∷ xss
append_each (xs ∷ xss) (ys ∷ yss) = (xs ++ ys) ∷ append_each xss yss

-- both have the same slots and cells, and `free` cells are in no use
pub record IsInFront (early : Pool Message) (behind : Mail Message) (free cells : ℕ) : Type 0 where
  pub slots : length early.lists ≡ length behind.boxes
  pub early_cells : early.cells ≡ cells
  pub behind_cells : behind.cells ≡ cells
  pub small : cells < 2 ^ 32
  pub sum : free + (lengths early.lists + lengths behind.boxes) ≡ cells
