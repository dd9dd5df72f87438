-- What was filled in so far, and what a step of the code adds to it.
use Rattle.std.specs.Prelude.{◌≡◌, ◌⊎◌, ℕ, List, [], ◌∷◌, ◌++◌, Option, Some, None, Bool, true, false}
use Rattle.run_types.specs.declared.types.Label.{Label}
use Rattle.run_types.specs.declared.types.Label.TheVariants as L
use Rattle.run_types.specs.declared.types.What.TheVariants as W
use Rattle.run_types.specs.declared.types.Event.{Event}
use Rattle.run_types.specs.declared.types.End.{End}
use Rattle.run_types.specs.declared.types.End.TheVariants as E
use Rattle.run_types.specs.declared.types.Line.{Line}
use Rattle.run_types.specs.declared.types.Line.TheVariants as R
use Rattle.run_types.specs.declared.verdicts.Redex.{Redex}
use Rattle.run_types.specs.declared.verdicts.Verdict.{Verdict}
use Rattle.pool_relation.specs.Configuration.{Configuration}
use Rattle.pool_relation.specs.Transition.{transition, run, start}
use Rattle.mesh_semantics.specs.Record.{EndsOnce, ends_quiet, is_quiet_end, labels}
use Rattle.pool_semantics.specs.PlainOf.{configuration_of, program_tree, is_spent}
use Rattle.record_check.specs.RecordJudgement.{LeadsTo, Judged, root}
use Rattle.record_check.specs.Verdicts.{StopsAfter}
use Rattle.stream_check.specs.Stream.{next_number}
use Rattle.stream_check.specs.declared.filling.Filling.{Filling}
use Rattle.stream_check.specs.Filled.{AllAtRest, AreAtRest, AreInPlace, AreNumbered, HaveNoLocal, IsFilledIn, IsFull, TakesPart, is_local, without_local, without_local_of}

-- an end line with this number
abbrev pub with_done : ℕ → End → End
with_done k (E.Quiet done) = E.Quiet k
with_done k (E.Schedule done) = E.Schedule k
with_done k (E.Full kind node done) = E.Full kind node k

-- a line with the number that it has after the event `last`
abbrev pub renumbered : ℕ → Line → Line
renumbered last (R.Event n e what) = R.Event (next_number last) e what
renumbered last (R.End end) = R.End (with_done last end)

-- the number of the last event, after this line
abbrev pub number_after : ℕ → Line → ℕ
number_after last (R.Event n e what) = next_number last
number_after last (R.End end) = last

-- the labels of lines but for those of local transitions
abbrev pub own_labels : List Line → List Label
own_labels [] = []
own_labels (l ∷ ls) = labels (without_local_of l) ++ own_labels ls

-- the caller, if the label is an answer or a return
abbrev pub caller_of : Label → Option ℕ
caller_of (L.Answer b o m args) = Some o
caller_of (L.Return b o v) = Some o
caller_of _ = None

-- the number is one of these
abbrev pub IsAmong : ℕ → List ℕ → Type 0
IsAmong q [] = ⊥
IsAmong q (o ∷ os) = (q ≡ o) ⊎ IsAmong q os

-- these numbered lines were added; without those of local transitions they are `kept`
pub record Adds (f g : Filling) (added kept : List Line) : Type 0 where
  pub lines : g.lines ≡ f.lines ++ added
  pub same : without_local added ≡ kept
  pub numbered : (more : List Line) → AreNumbered g.last more → AreNumbered f.last (added ++ more)

-- a line that shows local transitions of an object with this property, filled in
pub record IsFillOf (P : ℕ → Type 0) (l : Line) : Type 0 where
  pub object : ℕ
  pub number : ℕ
  pub event : Event
  pub times : ℕ
  pub is : l ≡ R.Event number event (W.Step (L.Local object) times)
  pub filled : IsFilledIn object event times
  pub its : P object

-- each of these lines is one
abbrev pub AreFillsOf : (ℕ → Type 0) → List Line → Type 0
AreFillsOf P [] = Unit {0}
AreFillsOf P (l ∷ ls) = IsFillOf P l × AreFillsOf P ls

-- lines were added whose labels lead from the one configuration to the other
pub record Grows (f g : Filling) (kept : List Line) : Type 0 where
  pub program : program_tree g.plain ≡ program_tree f.plain
  pub going_on : is_spent f.plain ≡ false → is_spent g.plain ≡ false
  pub added : List Line
  pub adds : Adds f g added kept
  pub leads : run (program_tree f.plain) (configuration_of f.plain) (labels added) ≡ Some (configuration_of g.plain)

-- the local transitions of an object were added, all or as many as may be; no object that had none has one now
pub record Fills (f g : Filling) (object : ℕ) (most : Bool) : Type 0 where
  pub grows : Grows f g []
  pub fills : AreFillsOf (λ q. q ≡ object) grows.added
  pub full : most ≡ true → IsFull g.lines object
  pub rests : most ≡ false → transition (program_tree f.plain) (configuration_of g.plain) (L.Local object) ≡ None
  pub keeps : (q : ℕ) → transition (program_tree f.plain) (configuration_of f.plain) (L.Local q) ≡ None → transition (program_tree f.plain) (configuration_of g.plain) (L.Local q) ≡ None

-- local transitions of the objects that take part in a transition were added
pub record Prepares (f g : Filling) (lab : Label) : Type 0 where
  pub grows : Grows f g []
  pub fills : AreFillsOf (λ q. TakesPart q lab) grows.added
  pub rests : AreAtRest (program_tree f.plain) g.lines (configuration_of g.plain) lab

-- the objects that must be at rest where this line's transition begins
abbrev pub RestsFor : Filling → Filling → Line → Type 0
RestsFor f g (R.Event n e (W.Step lab times)) = AreAtRest (program_tree f.plain) g.lines (configuration_of g.plain) lab
RestsFor f g _ = Unit {0}

-- the object takes part in the transition of this line
abbrev pub IsNeededBy : Line → ℕ → Type 0
IsNeededBy (R.Event n e (W.Step lab times)) q = TakesPart q lab
IsNeededBy _ q = ⊥

-- local transitions were added before a line
pub record Readies (f g : Filling) (l : Line) : Type 0 where
  pub grows : Grows f g []
  pub fills : AreFillsOf (IsNeededBy l) grows.added
  pub rests : RestsFor f g l

-- local transitions of all objects were added
pub record Settles (f g : Filling) : Type 0 where
  pub grows : Grows f g []
  pub fills : AreFillsOf (λ q. Unit {0}) grows.added
  pub rests : AllAtRest (program_tree f.plain) g.lines (configuration_of g.plain)

-- local transitions of all objects were added if the end is quiet
pub record Quiets (f g : Filling) (end : End) : Type 0 where
  pub grows : Grows f g []
  pub fills : AreFillsOf (λ q. is_quiet_end (R.End end) ≡ true) grows.added
  pub rests : is_quiet_end (R.End end) ≡ true → AllAtRest (program_tree f.plain) g.lines (configuration_of g.plain)

-- each object has no local transition, or is among the rest
pub record Settling (rest : List ℕ) (f g : Filling) : Type 0 where
  pub grows : Grows f g []
  pub fills : AreFillsOf (λ q. Unit {0}) grows.added
  pub rests : (q : ℕ) → (transition (program_tree f.plain) (configuration_of g.plain) (L.Local q) ≡ None) ⊎ IsAmong q rest

-- a line with its local transitions was added, and what was filled in is in place before all that comes behind it
pub record Passes (f g : Filling) (kept : List Line) : Type 0 where
  pub grows : Grows f g kept
  pub in_place : (more : List Line) → AreInPlace more → AreInPlace (grows.added ++ more)

-- the lines before the rest were copied, but for those of local transitions
pub record Copies (lines rest : List Line) (f g : Filling) : Type 0 where
  pub plain : g.plain ≡ f.plain
  pub added : List Line
  pub kept : List Line
  pub adds : Adds f g added kept
  pub own : HaveNoLocal added
  pub all : kept ++ without_local rest ≡ without_local lines

-- local transitions and then a line with an impossible transition were added
pub record Stops (f g : Filling) (l : Line) (redex : Redex) : Type 0 where
  pub program : program_tree g.plain ≡ program_tree f.plain
  pub filled : List Line
  pub silent : without_local filled ≡ []
  pub event : Event
  pub label : Label
  pub fills : AreFillsOf (λ q. TakesPart q label) filled
  pub times : ℕ
  pub own : is_local label ≡ false
  pub kept : without_local_of l ≡ R.Event 0 event (W.Step label times) ∷ []
  pub lines : g.lines ≡ (f.lines ++ filled) ++ R.Event g.last event (W.Step label times) ∷ []
  pub numbered : (more : List Line) → AreNumbered g.last more → AreNumbered f.last (filled ++ R.Event g.last event (W.Step label times) ∷ more)
  pub between : Configuration
  pub leads : run (program_tree f.plain) (configuration_of f.plain) (labels filled) ≡ Some between
  pub stops : StopsAfter (program_tree f.plain) between label times (configuration_of g.plain) redex
  pub rests : stops.made ≡ 0 → AreAtRest (program_tree f.plain) (f.lines ++ filled) (configuration_of g.plain) label

-- local transitions, if the end is quiet, and then the end line were added, and the whole was judged
pub record Ends (f g : Filling) (end : End) (v : Verdict) : Type 0 where
  pub filled : List Line
  pub silent : without_local filled ≡ []
  pub fills : AreFillsOf (λ q. is_quiet_end (R.End end) ≡ true) filled
  pub last : ℕ
  pub lines : g.lines ≡ (f.lines ++ filled) ++ R.End (with_done last end) ∷ []
  pub numbered : AreNumbered f.last (filled ++ R.End (with_done last end) ∷ [])
  pub leads : run (program_tree f.plain) (configuration_of f.plain) (labels filled) ≡ Some (configuration_of g.plain)
  pub judged : LeadsTo (program_tree f.plain) g.lines (configuration_of g.plain) → Judged (program_tree f.plain) g.lines v
  pub rests : is_quiet_end (R.End end) ≡ true → AllAtRest (program_tree f.plain) (f.lines ++ filled) (configuration_of g.plain)

-- nothing was filled in so far, and the configuration is the start of the first object that makes a transition which is
-- not local
pub record Begins (lines : List Line) (f : Filling) : Type 0 where
  pub fresh : is_spent f.plain ≡ false
  pub starts : start (program_tree f.plain) (root (without_local lines)) ≡ Some (configuration_of f.plain)
  pub none : f.lines ≡ []
  pub first : f.last ≡ 0

-- the lines before the rest were filled, and the end line is among the rest
pub record Follows (lines rest : List Line) (f g : Filling) : Type 0 where
  pub kept : List Line
  pub passes : Passes f g kept
  pub all : kept ++ without_local rest ≡ without_local lines
  pub ends : EndsOnce rest
  pub quiet : ends_quiet rest ≡ ends_quiet lines
