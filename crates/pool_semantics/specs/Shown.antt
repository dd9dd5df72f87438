-- The redex that is shown of an object: its next action in the form that callers of the stepper get.
use Rattle.std.specs.Prelude.{◌≡◌, ℕ, ◌-◌, ◌==◌, List, length, Option, Some, None, Bool, if◌then◌else◌}
use Rattle.run_types.specs.declared.types.Value.{Value}
use Rattle.run_types.specs.declared.types.Error.{Error}
use Rattle.pool_syntax.specs.Terms.{ProgramTree}
use Rattle.pool_relation.specs.Action as A
use Rattle.pool_relation.specs.Action.{Object, Action, action}
use Rattle.pool_relation.specs.Configuration.{Configuration, object_of}
use Rattle.run_types.specs.declared.verdicts.Redex.{Redex}
use Rattle.run_types.specs.declared.verdicts.Redex.TheVariants as R

-- whether there are at most 8 values
abbrev pub are_at_most_eight : List Value → Bool
are_at_most_eight vs = length vs - 8 == 0

-- the form of an action; None if the object is stuck, or if it has more than 8 arguments for another object
abbrev pub shown : Action → Option Redex
shown A.Finished = Some R.Finished
shown (A.Local term vars) = Some R.Local
shown (A.Fault e) = Some (R.Fault e)
shown (A.New c) = Some (R.New (record { 0 = c }))
shown (A.Send b m vs) = if are_at_most_eight vs then Some (R.Send b (record { 0 = m }) vs) else None
shown (A.Async b m vs) = if are_at_most_eight vs then Some (R.Async b (record { 0 = m }) vs) else None
shown (A.Write i) = Some (R.Write i)
shown (A.Answer names) = Some R.Answer
shown (A.Select choices) = Some R.Select
shown (A.Return k v) = Some (R.Return v)
shown (A.Waits b m) = Some (R.Waits b)
shown A.Stuck = None

-- the form of the next action of an object, or that it has met an error
abbrev pub shown_of : ProgramTree → ℕ → Object → Option Error → Option Redex
shown_of p o x (Some e) = Some R.Faulted
shown_of p o x None = shown (action p o x)

abbrev pub shown_if : ProgramTree → ℕ → Option Object → Option Redex
shown_if p o None = Some R.NoObject
shown_if p o (Some x) = shown_of p o x x.fault

-- the redex that is shown of the name o
abbrev pub shown_at : ProgramTree → Configuration → ℕ → Option Redex
shown_at p c o = shown_if p o (object_of c o)

-- r is the redex that is shown of the name o
abbrev pub Shows : ProgramTree → Configuration → ℕ → Redex → Type 0
Shows p c o r = shown_at p c o ≡ Some r
