-- Records without local transitions, and the same records with local transitions filled in.
use Rattle.std.specs.Prelude.{◌≡◌, ◌⊎◌, ◌<◌, ◌≤◌, ℕ, List, [], ◌∷◌, ◌++◌, None, Bool, true, false}
use Rattle.run_types.specs.declared.types.Label.{Label}
use Rattle.run_types.specs.declared.types.Label.TheVariants as L
use Rattle.run_types.specs.declared.types.What.TheVariants as W
use Rattle.run_types.specs.declared.types.Event.{Event}
use Rattle.run_types.specs.declared.types.Event.TheVariants as Ev
use Rattle.run_types.specs.declared.types.End.{End}
use Rattle.run_types.specs.declared.types.End.TheVariants as E
use Rattle.run_types.specs.declared.types.Line.{Line}
use Rattle.run_types.specs.declared.types.Line.TheVariants as R
use Rattle.run_types.specs.declared.verdicts.Verdict.{Verdict}
use Rattle.run_types.specs.declared.verdicts.Verdict.TheVariants as V
use Rattle.run_types.specs.ObjectNames.{node_of}
use Rattle.pool_syntax.specs.Terms.{ProgramTree}
use Rattle.pool_relation.specs.Configuration.{Configuration}
use Rattle.pool_relation.specs.Progress.{agent}
use Rattle.pool_relation.specs.Transition.{transition}
use Rattle.mesh_semantics.specs.Record.{is_quiet_end}
use Rattle.pool_semantics.specs.Shown.{Shows}
use Rattle.record_check.specs.RecordJudgement.{IsRunOf, StillMoves, StopsAt, root}
use Rattle.run_record.specs.Records.{done_of}
use Rattle.stream_check.specs.Followed.{EndsWith}
use Rattle.stream_check.specs.Stream.{next_number}

-- an end line without its number
abbrev pub unnumbered_end : End → End
unnumbered_end (E.Quiet done) = E.Quiet 0
unnumbered_end (E.Schedule done) = E.Schedule 0
unnumbered_end (E.Full kind node done) = E.Full kind node 0

-- a line without its number; nothing of a line of local transitions
abbrev pub without_local_of : Line → List Line
without_local_of (R.Event n e (W.Step (L.Local o) times)) = []
without_local_of (R.Event n e what) = R.Event 0 e what ∷ []
without_local_of (R.End end) = R.End (unnumbered_end end) ∷ []

-- the lines without their numbers, and without those of local transitions
abbrev pub without_local : List Line → List Line
without_local [] = []
without_local (l ∷ ls) = without_local_of l ++ without_local ls

-- the events after the event `last` have the next numbers, and an end line has the number of the last event
abbrev pub AreNumbered : ℕ → List Line → Type 0
AreNumbered last [] = Unit {0}
AreNumbered last (R.Event n e what ∷ ls) = (n ≡ next_number last) × AreNumbered n ls
AreNumbered last (R.End end ∷ ls) = (done_of end ≡ last) × AreNumbered last ls

-- the largest number of local transitions of one object that are filled in at one place
abbrev pub most_filled : ℕ
most_filled = 1000000

-- the last of the lines shows as many local transitions of the object as one line may be given
pub record IsFull (ls : List Line) (object : ℕ) : Type 0 where
  pub before : List Line
  pub number : ℕ
  pub event : Event
  pub whole : ls ≡ before ++ R.Event number event (W.Step (L.Local object) most_filled) ∷ []

-- the object has no local transition, or the last line is full of them
abbrev pub IsAtRest : ProgramTree → List Line → Configuration → ℕ → Type 0
IsAtRest p ls d o = (transition p d (L.Local o) ≡ None) ⊎ IsFull ls o

-- The objects that must be at rest where the transition begins: its agent, and then the caller, if it is an answer or a
-- return. If the agent has more local transitions than may be filled in, nothing is said of the caller.
abbrev pub AreAtRest : ProgramTree → List Line → Configuration → Label → Type 0
AreAtRest p ls d (L.Answer b o m args) = ((transition p d (L.Local b) ≡ None) × IsAtRest p ls d o) ⊎ IsFull ls b
AreAtRest p ls d (L.Return b o v) = ((transition p d (L.Local b) ≡ None) × IsAtRest p ls d o) ⊎ IsFull ls b
AreAtRest p ls d lab = IsAtRest p ls d (agent lab)

-- no object has a local transition, or the last line is full of those of one object
abbrev pub AllAtRest : ProgramTree → List Line → Configuration → Type 0
AllAtRest p ls d = ((q : ℕ) → transition p d (L.Local q) ≡ None) ⊎ ((q : ℕ) × IsFull ls q)

-- whether the label is that of a local transition
abbrev pub is_local : Label → Bool
is_local (L.Local o) = true
is_local _ = false

-- a line of local transitions
abbrev pub shows_local : Line → Bool
shows_local (R.Event n e (W.Step lab times)) = is_local lab
shows_local _ = false

-- none of the lines shows local transitions
abbrev pub HaveNoLocal : List Line → Type 0
HaveNoLocal [] = Unit {0}
HaveNoLocal (l ∷ ls) = (shows_local l ≡ false) × HaveNoLocal ls

-- the object takes part in a transition with this label: as its agent, or as the caller in an answer or a return
abbrev pub TakesPart : ℕ → Label → Type 0
TakesPart q (L.Answer b o m args) = (q ≡ b) ⊎ (q ≡ o)
TakesPart q (L.Return b o v) = (q ≡ b) ⊎ (q ≡ o)
TakesPart q lab = q ≡ agent lab

-- The first of these lines that does not show local transitions needs the object to be at rest: it shows a transition in
-- which the object takes part, or it is a quiet end.
abbrev pub IsNeeded : ℕ → List Line → Type 0
IsNeeded q [] = ⊥
IsNeeded q (R.Event n e (W.Step (L.Local o) times) ∷ ls) = IsNeeded q ls
IsNeeded q (R.Event n e (W.Step lab times) ∷ ls) = TakesPart q lab
IsNeeded q (R.Event n e what ∷ ls) = ⊥
IsNeeded q (R.End end ∷ ls) = is_quiet_end (R.End end) ≡ true

-- local transitions of the object are filled in here: in a turn of its node, at least one and at most so many as may be
pub record IsFilledIn (object : ℕ) (event : Event) (times : ℕ) : Type 0 where
  pub turn : event ≡ Ev.Turn (node_of object)
  pub some : 0 < times
  pub most : times ≤ most_filled
  pub name : object < 4294967296

-- each line of local transitions was filled in, and is needed where it stands
abbrev pub AreInPlace : List Line → Type 0
AreInPlace [] = Unit {0}
AreInPlace (R.Event n e (W.Step (L.Local o) times) ∷ ls) = IsFilledIn o e times × IsNeeded o ls × AreInPlace ls
AreInPlace (l ∷ ls) = AreInPlace ls

-- Both records say the same but for local transitions. The root of the second one is the object of the first label of
-- the first one that is not local.
pub record SaysTheSame (ls fs : List Line) : Type 0 where
  pub same : without_local fs ≡ without_local ls
  pub rooted : root fs ≡ root (without_local ls)

-- They say the same, the local transitions of the second one are in place, and it is numbered.
pub record IsSame (ls fs : List Line) : Type 0 where
  pub says : SaysTheSame ls fs
  pub in_place : AreInPlace fs
  pub numbered : AreNumbered 0 fs

-- The lines fs are the lines ls with local transitions filled in, and v is the verdict on them.
-- An impossible line is one of ls. Before it each object that takes part is at rest, and behind it nothing is filled in.
-- Before a quiet end where an object can move, all objects are at rest.
abbrev pub IsFilled : ProgramTree → List Line → List Line → Verdict → Type 0
IsFilled p ls fs V.Yes = IsSame ls fs × IsRunOf p fs
IsFilled p ls fs (V.No number redex) =
    IsSame ls fs
    × ((d : Configuration) × (lab : Label) × (stop : StopsAt p fs number d lab) × Shows p d (agent lab) redex
    × (is_local lab ≡ false) × HaveNoLocal stop.behind × (stop.made ≡ 0 → AreAtRest p stop.before d lab))
IsFilled p ls fs (V.Moving o) =
    IsSame ls fs × ((still : StillMoves p fs o) × (before : List Line) × EndsWith fs before × AllAtRest p before still.last)
