-- The three kinds of lines in a record: a transition, a named network delay, or idle.
use Rattle.std.specs.Prelude.{◌≡◌, ◌<◌, List, [], ◌∷◌}
use Rattle.run_types.specs.declared.types.Label.TheVariants as L
use Rattle.run_types.specs.declared.types.What.{What}
use Rattle.run_types.specs.declared.types.What.TheVariants as W
use Rattle.run_types.specs.declared.types.Line.{Line}
use Rattle.run_types.specs.declared.types.Line.TheVariants as R

-- the step is one transition, or one or more local transitions
abbrev pub IsTransition : What → Type 0
IsTransition (W.Step (L.Local o) times) = 0 < times
IsTransition (W.Step label times) = times ≡ 1
IsTransition _ = ⊥

-- the delays: a request or a result is under way between nodes, or a frame on a lossy wire
abbrev pub IsDelay : What → Type 0
IsDelay (W.PostCreate object class node) = Unit {0}
IsDelay (W.PostCall object receiver method args) = Unit {0}
IsDelay (W.Arrive object receiver method) = Unit {0}
IsDelay (W.Created object name) = Unit {0}
IsDelay (W.Result object value) = Unit {0}
IsDelay W.Pass = Unit {0}
IsDelay (W.Frame number) = Unit {0}
IsDelay (W.Lost number) = Unit {0}
IsDelay (W.Stale number) = Unit {0}
IsDelay (W.Acked number) = Unit {0}
IsDelay (W.Late number) = Unit {0}
IsDelay _ = ⊥

pub data IsOneOfThree (what : What) : Type 0 where
  transition : IsTransition what → IsOneOfThree what
  delay : IsDelay what → IsOneOfThree what
  idle : what ≡ W.Idle → IsOneOfThree what

abbrev pub EachIsOneOfThree : List Line → Type 0
EachIsOneOfThree [] = Unit {0}
EachIsOneOfThree (R.Event number event what ∷ lines) = IsOneOfThree what × EachIsOneOfThree lines
EachIsOneOfThree (R.End end ∷ lines) = EachIsOneOfThree lines
