-- Questions of a search about a configuration: its transitions that need no choice, and the calls of its objects.
use Rattle.std.specs.Prelude.{◌≡◌, ◌≤◌, ℕ, Option, Some, None}
use Rattle.run_types.specs.declared.types.Label.{Label}
use Rattle.run_types.specs.declared.types.Label.TheVariants as L
use Rattle.run_types.specs.declared.types.NameId.{NameId}
use Rattle.pool_syntax.specs.Terms.{ProgramTree}
use Rattle.run_types.specs.Partial.{◌>>=◌}
use Rattle.pool_relation.specs.Action as A
use Rattle.pool_relation.specs.Action.{Action, action}
use Rattle.pool_relation.specs.Configuration.{Configuration}
use Rattle.pool_relation.specs.Transition.{running}
use Rattle.reachability.specs.Search.{WaitsAt}

-- the label of this action of the object o, if it needs no choice
abbrev pub free_label : ℕ → Action → Option Label
free_label o (A.Local term vars) = Some (L.Local o)
free_label o (A.Fault e) = Some (L.Fault o e)
free_label o (A.Async b m args) = Some (L.Send o b (record { 0 = m }) args)
free_label o (A.Write item) = Some (L.Write o item)
free_label o (A.Return k v) = Some (L.Return o k v)
free_label o _ = None

-- the label of the next action of the object o, if it exists, has met no error and the action needs no choice
abbrev pub free_at : ProgramTree → Configuration → ℕ → Option Label
free_at p c o = running c o >>= λ x. free_label o (action p o x)

-- the same, but no write
abbrev pub unless_write : Option Label → Option Label
unless_write (Some (L.Write o item)) = None
unless_write l = l

abbrev pub silent_at : ProgramTree → Configuration → ℕ → Option Label
silent_at p c o = unless_write (free_at p c o)

-- the receiver and the method, if the action is a call or the wait of one
abbrev pub call_of : Action → Option (ℕ × ℕ)
call_of (A.Send b m args) = Some (b, m)
call_of (A.Waits b m) = Some (b, m)
call_of _ = None

-- the same, for the pair that the code gives
abbrev pub called : Option (ℕ × NameId) → Option (ℕ × ℕ)
called None = None
called (Some r) = Some (r.0, r.1.0)

-- b is the name o and at least from, and its object has met no error and is at a call or in one
abbrev pub WaitsFrom : ProgramTree → Configuration → ℕ → ℕ → ℕ → Type 0
WaitsFrom p c from o b = (b ≡ o) × (from ≤ b) × WaitsAt p c b
