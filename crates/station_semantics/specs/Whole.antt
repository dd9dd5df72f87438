-- All stations of a mesh, and a carrier that brings frames from one to another. It brings a frame only after the
-- neighbour has sent it. It may bring it at any time, any number of times, in any order, or never.
-- Throughout, g is a language, l a placement, q the largest number of local transitions of a turn, and w the whole.
use Rattle.std.specs.Prelude.{◌≡◌, ◌⊎◌, ℕ, List, [], ◌∷◌, ◌++◌, map, Option, Some, None, false, slice_get}
use Rattle.run_types.specs.declared.types.What.{What}
use Rattle.run_types.specs.declared.types.Event.{Event}
use Rattle.run_types.specs.declared.types.Placement.{Placement}
use Rattle.run_types.specs.Tables.{Pair}
use Rattle.mesh_semantics.specs.Language.{Language}
use Rattle.node_semantics.specs.Node.{set_at}
use Rattle.node_semantics.specs.Machine as M
use Rattle.node_semantics.specs.Machine.{Machine, is_machine_quiet, machine_act}
use Rattle.node_semantics.specs.Agrees.{IsFresh, IsOfMesh, IsUnused}
use Rattle.station_semantics.specs.Station.{Frame, Station, Input, Turn, Wait, Comes, Told, Silent, Line, Full, Answer, answer, alone}

pub record Whole (S : Type 0) : Type 0 where
  -- the station of each node
  pub stations : List (Station S)
  -- all frames that were ever sent, each with the ends of its link
  pub sent : List (Pair × Frame)

-- an input of one station, with the number for a request that it posts, and what it sends after it
pub record Step : Type 0 where
  pub at : ℕ
  pub fresh : ℕ
  pub sends : List (ℕ × ℕ)
  pub input : Input

-- frames from n, with the ends of their links
abbrev pub from_node : ℕ → List (ℕ × Frame) → List (Pair × Frame)
from_node n [] = []
from_node n (f ∷ fs) = ((n, f.0), f.1) ∷ from_node n fs

-- the whole after station n has answered
abbrev pub after_answer : {S : Type 0} → Whole S → ℕ → Answer S → Whole S
after_answer w n a = record { stations = set_at w.stations n a.station; sent = w.sent ++ from_node n a.frames }

abbrev pub after_input : {S : Type 0} → Language S → Placement → ℕ → Whole S → Step → Option (Station S) → Whole S
after_input g l q w i None = w
after_input g l q w i (Some s) = after_answer w i.at (answer g l q i.at i.fresh i.sends s i.input)

-- the whole after a step
abbrev pub after_step : {S : Type 0} → Language S → Placement → ℕ → Whole S → Step → Whole S
after_step g l q w i = after_input g l q w i (slice_get w.stations i.at)

-- a line of a log: an event, and what it did
abbrev pub Logged : Type 0
Logged = Event × What

abbrev pub logged : Told → List Logged
logged Silent = []
logged (Line e w) = (e, w) ∷ []
logged (Full kind) = []

abbrev pub told_by : {S : Type 0} → Language S → Placement → ℕ → Step → Option (Station S) → List Logged
told_by g l q i None = []
told_by g l q i (Some s) = logged (answer g l q i.at i.fresh i.sends s i.input).told

-- the lines of all logs, in the order of the steps; and the whole after the steps
abbrev pub merged : {S : Type 0} → Language S → Placement → ℕ → Whole S → List Step → List Logged
merged g l q w [] = []
merged g l q w (i ∷ is) = told_by g l q i (slice_get w.stations i.at) ++ merged g l q (after_step g l q w i) is

abbrev pub after_steps : {S : Type 0} → Language S → Placement → ℕ → Whole S → List Step → Whole S
after_steps g l q w [] = w
after_steps g l q w (i ∷ is) = after_steps g l q (after_step g l q w i) is

-- the frame was sent over the link k
abbrev pub WasSent : List (Pair × Frame) → Pair → Frame → Type 0
WasSent [] k f = ⊥
WasSent (e ∷ es) k f = ((e.0 ≡ k) × (e.1 ≡ f)) ⊎ WasSent es k f

-- the number is not in use at the station
abbrev pub IsUnusedAt : {S : Type 0} → ℕ → Option (Station S) → Type 0
IsUnusedAt fresh None = Unit {0}
IsUnusedAt fresh (Some s) = IsUnused fresh s.node

-- the carrier may make this step: a frame was sent before by the neighbour from which it comes. And the number for a
-- request is not in use.
abbrev pub MayCome : {S : Type 0} → Whole S → Step → Input → Type 0
MayCome w i Turn = IsUnusedAt i.fresh (slice_get w.stations i.at)
MayCome w i Wait = Unit {0}
MayCome w i (Comes a f) = WasSent w.sent (a, i.at) f

abbrev pub AreCarried : {S : Type 0} → Language S → Placement → ℕ → Whole S → List Step → Type 0
AreCarried g l q w [] = Unit {0}
AreCarried g l q w (i ∷ is) = MayCome w i i.input × AreCarried g l q (after_step g l q w i) is

-- The machine, which has no wires, makes this line, and is then the next one. It was not quiet. A request gets a number
-- that is not in use.
pub record MakesOne {S : Type 0} (g : Language S) (l : Placement) (q : ℕ) (m : Machine S) (e : Logged) (later : Machine S) : Type 0 where
  pub fresh : ℕ
  pub unused : IsFresh m fresh e.0
  pub inside : IsOfMesh l e.0
  pub busy : is_machine_quiet g m ≡ false
  pub acts : machine_act g l q fresh m e.0 ≡ M.Acts e.1 later

-- the machine makes these lines, one after the other, and is then m'
abbrev pub Makes : {S : Type 0} → Language S → Placement → ℕ → Machine S → List Logged → Machine S → Type 0
Makes g l q m [] m' = m ≡ m'
Makes {S} g l q m (e ∷ es) m' = (later : Machine S) × MakesOne g l q m e later × Makes g l q later es m'

-- the stations of a machine's nodes, before any input
abbrev pub apart : {S : Type 0} → Machine S → Whole S
apart m = record { stations = map alone m.nodes; sent = [] }
