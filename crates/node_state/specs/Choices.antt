-- The alternatives that an object can choose with the messages in its mailbox.
use Rattle.std.specs.Prelude.{ℕ, ◌+◌, List, [], ◌∷◌, Option, Some, None, is_some, Bool, false, ◌||◌, if◌then◌else◌, position}
use Rattle.run_types.specs.declared.types.NameId.{NameId}
use Rattle.code_semantics.specs.Kinds.{Offered}
use Rattle.object_interp.specs.Offers.{is_open_plain, open_names}
use Rattle.slot_queues.specs.declared.Message.{Message}
use Rattle.slot_queues.specs.Mail.{is_named}

-- whether a message calls one of the methods
abbrev pub is_called : List Message → Option (List NameId) → Bool
is_called box None = false
is_called box (Some names) = is_some (position (λ (m : Message). is_named names m.method) box)

-- the index of the first of these messages
abbrev pub place_called : List Message → Option (List NameId) → Option ℕ
place_called box None = None
place_called box (Some names) = position (λ (m : Message). is_named names m.method) box

-- whether an alternative is possible
abbrev pub may_go : List Message → Option Offered → Bool
may_go box a = is_open_plain a || is_called box (open_names a)

-- the number of the first possible alternative, if the first of these has the number n
abbrev pub first_of_these : List Message → ℕ → List Offered → Option ℕ
first_of_these box n [] = None
first_of_these box n (a ∷ alts) = if may_go box (Some a) then Some n else first_of_these box (n + 1) alts
