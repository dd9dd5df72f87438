-- The queues of a mailbox after a message was posted.
use Rattle.std.specs.Prelude.{◌≡◌, ℕ, ◌+◌, ◌<◌, ◌≤◌, true, [], ◌∷◌, ◌++◌, get_or}
use Rattle.cell_pool.specs.Lists.{list_of, with_list}
use Rattle.slot_queues.specs.declared.Message.{Message}
use Rattle.slot_queues.specs.declared.lanes.Stamped.{Stamped}
use Rattle.slot_queues.specs.declared.lanes.Lanes.{Lanes}
use Rattle.slot_queues.specs.Lanes.{shared, home_of, may_hold}

-- a message to a slot with the next stamp
abbrev pub stamped : Lanes → ℕ → Message → Stamped
stamped l to message = record { stamp = l.next; to = to; message = message }

-- it was appended to a shared queue
pub record InShared (old new : Lanes) (to : ℕ) (message : Message) : Type 0 where
  pub queue : ℕ
  pub from : home_of old.cells to message.method.0 ≤ queue
  pub end : queue < home_of old.cells to message.method.0 + 8
  pub within : queue < shared old.cells
  pub holds : may_hold (get_or old.pool.lists queue []) to message.method.0 ≡ true
  pub none_late : get_or old.pool.lists (shared old.cells + to) [] ≡ []
  pub pool : new.pool ≡ with_list old.pool queue (list_of old.pool queue ++ stamped old to message ∷ [])
  pub cells : new.cells ≡ old.cells
  pub next : new.next ≡ old.next + 1

-- it was appended to the late queue of the slot
pub record InLate (old new : Lanes) (to : ℕ) (message : Message) : Type 0 where
  pub pool : new.pool ≡ with_list old.pool (shared old.cells + to) (list_of old.pool (shared old.cells + to) ++ stamped old to message ∷ [])
  pub cells : new.cells ≡ old.cells
  pub next : new.next ≡ old.next
