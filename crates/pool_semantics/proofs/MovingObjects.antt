-- Objects that can make a transition.
use Rattle.std.specs.Prelude.{ℕ}
use Rattle.pool_syntax.specs.Terms.{ProgramTree}
use Rattle.pool_relation.specs.Configuration.{Configuration, messages_of}
use Rattle.pool_semantics.specs.Moving.{Takes, MovesBy}

-- b moves: by what an object does next, or by a message
pub data Moves (p : ProgramTree) (c : Configuration) (b : ℕ) : Type 0 where
  by_object : (o : ℕ) → MovesBy p c o b → Moves p c b
  by_message : (s : ℕ) → Takes p c b (messages_of c s b) → Moves p c b
