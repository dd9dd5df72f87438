-- The labels that a search tries in a configuration, and those whose place does not matter for what is written.
use Rattle.std.specs.Prelude.{◌≡◌, ◌⊎◌, ℕ, suc, List, [], ◌∷◌, ◌++◌, Bool, false}
use Rattle.run_types.specs.declared.types.Label.{Label}
use Rattle.run_types.specs.declared.types.Label.TheVariants as L
use Rattle.pool_syntax.specs.Terms.{ProgramTree}
use Rattle.run_types.specs.Message.{Message}
use Rattle.run_types.specs.Tables.{Pair}
use Rattle.pool_relation.specs.Reducible.{Choice}
use Rattle.pool_relation.specs.Action as A
use Rattle.pool_relation.specs.Action.{Object, Action, action}
use Rattle.pool_relation.specs.Configuration.{Configuration}
use Rattle.reachability.specs.Search.{needs_no_choice}

-- the label is in the list
abbrev pub IsAmong : Label → List Label → Type 0
IsAmong l [] = ⊥
IsAmong l (k ∷ ks) = (k ≡ l) ⊎ IsAmong l ks

-- a pick of each of these alternatives, of which the first has the number i
abbrev pub picks : ℕ → ℕ → List Choice → List Label
picks o i [] = []
picks o i (c ∷ cs) = L.Pick o i ∷ picks o (suc i) cs

-- the labels that begin with this action of the object o, if n is the next name
abbrev pub own_labels : ℕ → ℕ → Action → List Label
own_labels n o (A.Local term vars) = L.Local o ∷ []
own_labels n o (A.Fault e) = L.Fault o e ∷ []
own_labels n o (A.New k) = L.New o n (record { 0 = k }) ∷ []
own_labels n o (A.Send b m args) = L.Answer b o (record { 0 = m }) args ∷ []
own_labels n o (A.Async b m args) = L.Send o b (record { 0 = m }) args ∷ []
own_labels n o (A.Write item) = L.Write o item ∷ []
own_labels n o (A.Select choices) = picks o 1 choices
own_labels n o (A.Return k v) = L.Return o k v ∷ []
own_labels n o _ = []

-- the same of each of these objects
abbrev pub object_labels : ProgramTree → ℕ → List (ℕ × Object) → List Label
object_labels p n [] = []
object_labels p n (e ∷ es) = own_labels n e.0 (action p e.0 e.1) ++ object_labels p n es

-- a take of each of these messages of a pair
abbrev pub takes : Pair → List Message → List Label
takes k [] = []
takes k (m ∷ ms) = L.Take k.1 k.0 (record { 0 = m.method }) m.args ∷ takes k ms

-- a take of each of these messages
abbrev pub message_labels : List (Pair × List Message) → List Label
message_labels [] = []
message_labels (e ∷ es) = takes e.0 e.1 ++ message_labels es

-- the labels of each object's next action, and a take of each message
abbrev pub labels_to_try : ProgramTree → ℕ → Configuration → List Label
labels_to_try p n c = object_labels p n c.objects ++ message_labels c.messages

-- it needs no choice and writes nothing
abbrev pub is_silent : Label → Bool
is_silent (L.Write o item) = false
is_silent l = needs_no_choice l
