-- Lists of messages, as lists of their numbers.
use Rattle.std.specs.Prelude.{◌<◌, ℕ, List, [], map, get_or}
use Rattle.std.specs.List.{All}
use Rattle.run_types.specs.Message.{Message}

-- the message at a number that the table does not have
abbrev pub no_message : Message
no_message = record { method = 0; args = [] }

-- the messages with these numbers
abbrev pub messages_at : List Message → List ℕ → List Message
messages_at ms ns = map (λ n. get_or ms n no_message) ns

-- each number is below n
abbrev pub IsBelow : ℕ → List ℕ → Type 0
IsBelow n ns = All (λ m. m < n) ns
