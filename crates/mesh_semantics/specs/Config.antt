-- Configurations of any language: the objects by name, and the asynchronous messages not yet taken, by sender and
-- receiver. Both maps are lists of entries with rising keys.
use Rattle.std.specs.Prelude.{ℕ, List, Option}
use Rattle.std.specs.Ordering.{nat_cmp}
use Rattle.std.specs.FinMap.{find, put}
use Rattle.run_types.specs.Tables.{Pair, pair_cmp, list_at, put_list}
use Rattle.run_types.specs.Message.{Message}

-- the objects and their messages at one moment; a pair without messages has no entry
pub record Config (S : Type 0) : Type 0 where
  pub objects : List (ℕ × S)
  pub messages : List (Pair × List Message)

-- the object of this name, if there is one
abbrev pub object_of : {S : Type 0} → Config S → ℕ → Option S
object_of c o = find nat_cmp o c.objects

-- the configuration in which this name has this object
abbrev pub put_object : {S : Type 0} → Config S → ℕ → S → Config S
put_object c o x = record c { objects = put nat_cmp o x c.objects }

-- the messages of a sender that the receiver has not yet taken, the earliest first
abbrev pub messages_of : {S : Type 0} → Config S → ℕ → ℕ → List Message
messages_of c s r = list_at pair_cmp (s, r) c.messages

-- the configuration in which this pair has these messages
abbrev pub put_messages : {S : Type 0} → Config S → ℕ → ℕ → List Message → Config S
put_messages c s r ms = record c { messages = put_list pair_cmp (s, r) ms c.messages }
