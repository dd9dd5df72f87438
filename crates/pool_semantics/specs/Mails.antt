-- The messages of the transition relation that those of the stepper represent.
use Rattle.std.specs.Prelude.{List, map}
use Rattle.run_types.specs.Tables.{Pair}
use Rattle.run_types.specs.Message.{Message}
use Rattle.message_queue.specs.declared.Mail.{Mail}
pub use Rattle.message_queue.specs.Mails.{message_of}

-- the messages of a queue
abbrev pub queued : List Mail → List Message
queued q = map message_of q

-- the messages of all pairs
abbrev pub posts : List (Pair × List Mail) → List (Pair × List Message)
posts es = map (λ e. (e.0, queued e.1)) es
