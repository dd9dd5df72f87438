-- The messages of a table, in the order of their numbers.
use Rattle.std.specs.Prelude.{List, map}
use Rattle.run_types.specs.Message.{Message}
use Rattle.message_queue.specs.Mails.{message_of}
use Rattle.mail_numbers.specs.declared.mails.Mails.{Mails}
pub use Rattle.mail_numbers.specs.Numbered.{IsBelow, messages_at, no_message}

abbrev pub messages_of : Mails → List Message
messages_of t = map message_of t.items.items
