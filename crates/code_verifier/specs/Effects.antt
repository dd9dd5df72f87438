-- The effect on a stack of sorts of the instructions that look up a variable, a method or a class.
use Rattle.std.specs.Prelude.{ℕ, List, ◌∷◌, Option, Some, None, is_some, slice_get}
use Rattle.run_types.specs.declared.types.NameId.{NameId}
use Rattle.run_types.specs.declared.types.Kind.{Kind}
use Rattle.run_types.specs.Sorts.{ClassSort, Sort}
use Rattle.run_types.specs.Partial.{◌>>=◌, ◌>>◌, require}
use Rattle.code_semantics.specs.declared.file.UnitFile.{UnitFile}
use Rattle.code_semantics.specs.Step.{class_from}
use Rattle.code_typing.specs.declared.cell.Stacks.{Stacks}
use Rattle.code_typing.specs.StackEffects.{stack_of, with_sort}
use Rattle.code_verifier.specs.declared.effects.Left.{Left}
use Rattle.code_typing.specs.Sorts.{Declared, Stack, asked_of, kind_sort, pop_arguments, pop_fitting, pop_returned, pop_sent, push_sort, result_sort, signature_named}

-- pushes a value of the kind with this number, if there is one
abbrev pub loaded_by : List Kind → ℕ → Stack → Option Stack
loaded_by ks n ss = slice_get ks n >>= λ k. Some (kind_sort k ∷ ss)

-- pops a value of the kind with this number
abbrev pub stored_by : List Kind → ℕ → Stack → Option Stack
stored_by ks n ss = slice_get ks n >>= λ k. pop_fitting (kind_sort k) ss

-- an own call
abbrev pub called_by : Declared → NameId → Stack → Option Stack
called_by k m ss = signature_named k m >>= λ s. push_sort (result_sort s.outcome) (pop_arguments s.params ss)

-- a call of another object
abbrev pub sent_by : UnitFile → NameId → ℕ → Stack → Option Stack
sent_by f m n ss = asked_of f (slice_get ss n) m n >>= λ s. push_sort (result_sort s.outcome) (pop_sent ss s)

-- a message
abbrev pub sent_off_by : UnitFile → NameId → ℕ → Stack → Option Stack
sent_off_by f m n ss = asked_of f (slice_get ss n) m n >>= λ s. pop_sent ss s

-- the return of a value that stays on the stack
abbrev pub given_back_by : Option Sort → Stack → Option Stack
given_back_by value ss = pop_returned value ss >>= λ rest. Some ss

-- a new object
abbrev pub created_by : UnitFile → NameId → Stack → Option Stack
created_by f c ss = require (is_some (class_from 0 f.unit.classes c)) >> Some (ClassSort c.0 ∷ ss)

-- the stack after an instruction
abbrev pub left_stack : Stacks → Option Left → Option Stack
left_stack s None = None
left_stack s (Some l) = Some (with_sort l.pushed (stack_of s l.below))
