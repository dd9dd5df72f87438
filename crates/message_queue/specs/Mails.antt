-- The messages of the transition relation that those of a queue represent.
use Rattle.std.specs.Prelude.{ℕ, List, [], ◌∷◌, Option, Some, None, ◌==◌, if◌then◌else◌}
use Rattle.run_types.specs.Message.{Message}
use Rattle.message_queue.specs.declared.Mail.{Mail}

-- the message that m represents
abbrev pub message_of : Mail → Message
message_of m = record { method = m.method.0; args = m.args }

-- the first message for this method
abbrev pub first_of : ℕ → List Message → Option Message
first_of m [] = None
first_of m (x ∷ xs) = if x.method == m then Some x else first_of m xs

-- the messages without the first one for this method
abbrev pub without_of : ℕ → List Message → List Message
without_of m [] = []
without_of m (x ∷ xs) = if x.method == m then xs else x ∷ without_of m xs
