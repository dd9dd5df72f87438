-- The messages of a configuration after an update of those of one pair.
use Rattle.std.proofs.Common.{◌≡◌, ap, ℕ, List}
use Rattle.run_types.specs.Tables.{Pair}
use Rattle.run_types.specs.Message.{Message}
use Rattle.mesh_semantics.specs.Config.{Config, messages_of, put_messages}
use Rattle.run_types.proofs.Laws.{put_list_same, put_list_other}

module _ {S : Type 0} (c : Config S) where
  pub messages_same : (s r : ℕ) (ms : List Message) → messages_of (put_messages c s r ms) s r ≡ ms
  messages_same s r ms = put_list_same (s, r) ms c.messages

  pub messages_other : (s r : ℕ) (ms : List Message) (s' r' : ℕ) → ((s' ≡ s) → (r' ≡ r) → ⊥) → messages_of (put_messages c s r ms) s' r' ≡ messages_of c s' r'
  messages_other s r ms s' r' n = put_list_other (s, r) ms c.messages (s', r') (λ e. n (ap (λ (q : Pair). q.0) e) (ap (λ (q : Pair). q.1) e))
