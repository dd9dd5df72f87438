-- The outcome of a step of a machine as one value, made from a call's result and its output buffer.
use Rattle.std.specs.Prelude.{ℕ, Result, Ok, Err}
use Rattle.run_types.specs.declared.types.What.{What}
use Rattle.run_types.specs.declared.types.FullKind.{FullKind}
use Rattle.pool_machine.specs.declared.types.Limit.{Limit}

-- the content of its line; or nothing, since the step would exceed this limit of this node
pub data Did : Type 0 where
  Line : (what : What) → Did
  Full : (kind : FullKind) (node : ℕ) → Did

-- the outcome of a result and the buffer
abbrev pub did_of : Result (Unit {0}) Limit → What → Did
did_of (Ok _) what = Line what
did_of (Err limit) what = Full limit.kind limit.node
