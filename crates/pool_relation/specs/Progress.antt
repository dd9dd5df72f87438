-- The agent of a label, and objects that have a transition of their own.
use Rattle.std.specs.Prelude.{◌≡◌, ℕ, Some}
use Rattle.run_types.specs.declared.types.Label.{Label}
use Rattle.run_types.specs.declared.types.Label.TheVariants as L
use Rattle.pool_syntax.specs.Terms.{ProgramTree}
use Rattle.pool_relation.specs.Configuration.{Configuration}
use Rattle.pool_relation.specs.Transition.{transition}

-- the object that makes the transition; for an answer, a return or a take it is the object that accepts or returns
abbrev pub agent : Label → ℕ
agent (L.Local o) = o
agent (L.New o n k) = o
agent (L.Answer b o m args) = b
agent (L.Return b o v) = b
agent (L.Send o b m args) = o
agent (L.Take b s m args) = b
agent (L.Write o item) = o
agent (L.Pick o i) = o
agent (L.Fault o e) = o

-- some label with this agent is possible
abbrev pub HasOwnTransition : ProgramTree → Configuration → ℕ → Type 0
HasOwnTransition p c o = (l : Label) × (agent l ≡ o) × (d : Configuration) × (transition p c l ≡ Some d)
