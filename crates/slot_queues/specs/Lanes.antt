-- The queues in which a mailbox keeps its messages, and what the mailbox sees of them.
use Rattle.std.specs.Prelude.{◌≡◌, ℕ, suc, zero, ◌+◌, ◌*◌, ◌%◌, ◌/◌, ◌<◌, ◌≤◌, ◌==◌, ◌&&◌, ltb, cond, Bool, true, List, [], ◌∷◌, ◌++◌, length, get_or, map, Option, Some, None, MatchOption}
use Rattle.std.specs.List.{filter, range_with_len}
use Rattle.run_types.specs.Tables.{Each}
use Rattle.run_types.specs.declared.types.NameId.{NameId}
use Rattle.slot_queues.specs.declared.Message.{Message}
use Rattle.slot_queues.specs.declared.lanes.Stamped.{Stamped}
use Rattle.slot_queues.specs.Mail.{is_named}

-- the number of queues that slots share, for so many cells
abbrev pub shared : ℕ → ℕ
shared cells = 2 * cells + 8

-- the first of the eight shared queues that may hold messages of a method to a slot
unfoldable pub home_of : ℕ → ℕ → ℕ → ℕ
home_of cells to method = ((to * 1640531527 + method * 625866897) % 2147483648) * (2 * cells + 1) / 2147483648

-- whether a message is for this slot and calls this method
abbrev pub has_key : ℕ → ℕ → Stamped → Bool
has_key to method x = (x.to == to) && (x.message.method.0 == method)

-- ---- what the mailbox sees

-- a message among others in the order of their stamps
abbrev pub put_in : Stamped → List Stamped → List Stamped
put_in x [] = x ∷ []
put_in x (y ∷ ys) = cond (ltb x.stamp y.stamp) (x ∷ y ∷ ys) (y ∷ put_in x ys)

-- messages in the order of their stamps
abbrev pub in_order : List Stamped → List Stamped
in_order [] = []
in_order (x ∷ xs) = put_in x (in_order xs)

-- the messages of the first n queues
abbrev pub joined : ℕ → List (List Stamped) → List Stamped
joined zero l = []
joined (suc n) [] = []
joined (suc n) (xs ∷ l) = xs ++ joined n l

-- those for a slot
abbrev pub of_slot : ℕ → List Stamped → List Stamped
of_slot to xs = filter (λ (x : Stamped). x.to == to) xs

-- messages without their stamps
abbrev pub messages : List Stamped → List Message
messages xs = map (λ (x : Stamped). x.message) xs

-- the messages of a slot: those of the shared queues, and then those of its late queue
abbrev pub box_in : List (List Stamped) → ℕ → ℕ → List Message
box_in lists count to = messages (in_order (of_slot to (joined count lists))) ++ messages (get_or lists (count + to) [])

-- the messages of each slot
abbrev pub boxes_in : List (List Stamped) → ℕ → ℕ → List (List Message)
boxes_in lists count objects = map (box_in lists count) (range_with_len 0 objects)

-- ---- what the queues keep

-- y is for the slot of x, calls its method, and arrived after it
abbrev pub Follows : Stamped → Stamped → Type 0
Follows x y = (y.to ≡ x.to) × (y.message.method.0 ≡ x.message.method.0) × (x.stamp < y.stamp)

-- each message follows those before it
abbrev pub IsChain : List Stamped → Type 0
IsChain [] = Unit {0}
IsChain (x ∷ xs) = Each (Follows x) xs × IsChain xs

-- the message may be in shared queue q, and its stamp was given before `next`
abbrev pub IsNear : ℕ → ℕ → ℕ → Stamped → Type 0
IsNear cells next q x = (home_of cells x.to x.message.method.0 ≤ q) × (q < home_of cells x.to x.message.method.0 + 8) × (x.stamp < next)

-- how many messages have the stamp t
abbrev pub times : ℕ → List Stamped → ℕ
times t [] = 0
times t (x ∷ xs) = cond (x.stamp == t) 1 0 + times t xs

-- how many messages to a slot have a stamp below `end`
abbrev pub rank_in : ℕ → ℕ → List Stamped → ℕ
rank_in to end [] = 0
rank_in to end (x ∷ xs) = cond ((x.to == to) && ltb x.stamp end) 1 0 + rank_in to end xs

-- the sum of the lengths of lists
abbrev pub sizes : {X : Type 0} → List (List X) → ℕ
sizes [] = 0
sizes (xs ∷ xss) = length xs + sizes xss

-- the invariant of the queues of a mailbox
pub record IsKept (lists : List (List Stamped)) (cells next objects : ℕ) : Type 0 where
  pub count : length lists ≡ shared cells + objects
  pub chains : (q : ℕ) → q < shared cells → IsChain (get_or lists q [])
  pub near : (q : ℕ) → q < shared cells → Each (IsNear cells next q) (get_or lists q [])
  pub once : (t : ℕ) → times t (joined (shared cells) lists) ≤ 1
  pub sum : sizes (boxes_in lists (shared cells) objects) ≡ sizes lists

-- ---- how a message is found

module _ (lists : List (List Stamped)) (n : ℕ) where
  -- b is a queue and the stamp of its front message, which is wanted, and the earliest of all that are wanted in the
  -- first n queues
  pub record IsEarliest (Wanted : ℕ → Stamped → Type 0) (b : ℕ × ℕ) : Type 0 where
    pub first : Stamped
    pub rest : List Stamped
    pub within : b.0 < n
    pub is : get_or lists b.0 [] ≡ first ∷ rest
    pub stamp : first.stamp ≡ b.1
    pub wanted : Wanted b.0 first
    pub least : (q : ℕ) → q < n → Each (λ x. Wanted q x → b.1 ≤ x.stamp) (get_or lists q [])

  -- no message in the first n queues is wanted
  pub record IsNone (Wanted : ℕ → Stamped → Type 0) : Type 0 where
    pub none : (q : ℕ) → q < n → Each (λ x. Wanted q x → ⊥) (get_or lists q [])

  -- the earliest message that is wanted is at the front of a queue, and is found, or none is wanted
  abbrev pub IsFound : (ℕ → Stamped → Type 0) → Option (ℕ × ℕ) → Type 0
  IsFound Wanted r = MatchOption r (IsNone Wanted) (IsEarliest Wanted)

-- the messages of a method to a slot
abbrev pub Keyed : ℕ → ℕ → ℕ → Stamped → Type 0
Keyed to method q x = has_key to method x ≡ true

-- the messages to a slot that call one of the methods
abbrev pub Named : ℕ → List NameId → ℕ → Stamped → Type 0
Named to names q x = (x.to ≡ to) × (is_named names x.message.method ≡ true)

-- the front message of queue q, by the queue and the stamp, if it has the key
abbrev pub found_at : List Stamped → ℕ → ℕ → ℕ → Option (ℕ × ℕ)
found_at [] q to method = None
found_at (x ∷ xs) q to method = cond (has_key to method x) (Some (q, x.stamp)) None

-- the one with the lesser stamp
abbrev pub better_of : Option (ℕ × ℕ) → Option (ℕ × ℕ) → Option (ℕ × ℕ)
better_of None b = b
better_of (Some a) None = Some a
better_of (Some a) (Some b) = cond (ltb b.1 a.1) (Some b) (Some a)

-- whether a queue may take a message with the key: it is empty, or its front message has the key
abbrev pub may_hold : List Stamped → ℕ → ℕ → Bool
may_hold [] to method = true
may_hold (x ∷ xs) to method = has_key to method x
