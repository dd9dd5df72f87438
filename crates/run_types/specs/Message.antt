-- An asynchronous message: its method and its arguments.
use Rattle.std.specs.Prelude.{ℕ, List}
use Rattle.run_types.specs.declared.types.Value.{Value}

-- the method that the receiver is to execute, and its arguments
pub record Message : Type 0 where
  pub method : ℕ
  pub args : List Value
