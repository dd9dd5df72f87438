-- Configurations: the objects by name, and the asynchronous messages not yet taken, by sender and receiver. Both maps
-- are lists of entries with rising keys.
use Rattle.std.specs.Prelude.{ℕ, List, Option}
use Rattle.std.specs.Ordering.{nat_cmp}
use Rattle.std.specs.FinMap.{find, put}
use Rattle.pool_relation.specs.Action.{Object}
use Rattle.run_types.specs.Message.{Message}
use Rattle.run_types.specs.Tables.{Pair, pair_cmp, list_at, put_list}

-- the objects and their messages at one moment; a pair without messages has no entry
pub record Configuration : Type 0 where
  pub objects : List (ℕ × Object)
  pub messages : List (Pair × List Message)

-- the object of this name, if there is one
abbrev pub object_of : Configuration → ℕ → Option Object
object_of c o = find nat_cmp o c.objects

-- the configuration in which this name has this object
abbrev pub put_object : Configuration → ℕ → Object → Configuration
put_object c o x = record c { objects = put nat_cmp o x c.objects }

-- the messages of a sender that the receiver has not yet taken, the earliest first
abbrev pub messages_of : Configuration → ℕ → ℕ → List Message
messages_of c s r = list_at pair_cmp (s, r) c.messages

-- the configuration in which this pair has these messages
abbrev pub put_messages : Configuration → ℕ → ℕ → List Message → Configuration
put_messages c s r ms = record c { messages = put_list pair_cmp (s, r) ms c.messages }
