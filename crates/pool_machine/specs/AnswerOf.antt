-- The outcome of an event as one value, made from a call's answer and its output buffer.
use Rattle.std.specs.Prelude.{ℕ}
use Rattle.run_types.specs.declared.types.Event.{Event}
use Rattle.run_types.specs.declared.types.What.{What}
use Rattle.run_types.specs.declared.types.Line.{Line as OneLine}
use Rattle.run_types.specs.declared.types.Line.TheVariants as R
use Rattle.run_types.specs.declared.types.FullKind.{FullKind}
use Rattle.pool_machine.specs.declared.types.EventOutcome.{EventOutcome}
use Rattle.pool_machine.specs.declared.types.EventOutcome.TheVariants as T
use Rattle.pool_machine.specs.declared.types.Outcome.{Outcome}
use Rattle.pool_machine.specs.declared.types.Outcome.TheVariants as O

-- its line; or nothing, since the step would exceed this limit of this node
pub data Answer : Type 0 where
  Line : (line : OneLine) → Answer
  Full : (kind : FullKind) (node : ℕ) → Answer

-- the outcome of an answer and the buffer
abbrev pub answer_of : EventOutcome → Event → What → Answer
answer_of (T.Line number) event what = Line (R.Event number event what)
answer_of (T.Full kind node) event what = Full kind node

-- the outcome of an answer that is one value
abbrev pub answer_seen : Outcome → Answer
answer_seen (O.Line line) = Line line
answer_seen (O.Full kind node) = Full kind node
