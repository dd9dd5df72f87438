-- The mailbox of a node as contracts see it: the messages of each slot, and the number of cells.
use Rattle.std.specs.Prelude.{◌≡◌, ℕ, ◌+◌, ◌==◌, Bool, List, [], ◌∷◌, length, get_or, set, position, remove, slice_get, Option, Some, None, MatchOption}
use Rattle.std.specs.List.{list_any}
use Rattle.run_types.specs.declared.types.NameId.{NameId}
use Rattle.slot_queues.specs.declared.Message.{Message}

-- a list for each slot, in order of arrival, and the largest number of messages of all slots together
pub record Mail (X : Type 0) : Type 0 where
  pub boxes : List (List X)
  pub cells : ℕ

module _ {X : Type 0} where
  abbrev pub mail : List (List X) → ℕ → Mail X
  mail boxes cells = record { boxes = boxes; cells = cells }

  -- the messages of one slot
  abbrev pub box_of : Mail X → ℕ → List X
  box_of m slot = get_or m.boxes slot []

  -- m with other messages at one slot
  abbrev pub with_box : Mail X → ℕ → List X → Mail X
  with_box m slot xs = record { boxes = set m.boxes slot xs; cells = m.cells }

  -- the number of messages of all slots together
  abbrev pub lengths : List (List X) → ℕ
  lengths [] = 0
  lengths (xs ∷ xss) = length xs + lengths xss

-- whether the name is one of the names
abbrev pub is_named : List NameId → NameId → Bool
is_named names name = list_any (λ (n : NameId). n.0 == name.0) names

-- r is the first message of a slot whose method is one of the names, and `new` is `old` without it; or there is none,
-- and nothing has changed
abbrev pub IsTaken : List NameId → Mail Message → ℕ → Option Message → Mail Message → Type 0
IsTaken names old to r new = MatchOption (position (λ (m : Message). is_named names m.method) (box_of old to))
    ((r ≡ None) × (new ≡ old))
    (λ place. (m : Message) × (r ≡ Some m) × (slice_get (box_of old to) place ≡ Some m) × (new ≡ with_box old to (remove (box_of old to) place)))
