-- The contents of a routing table of a placement, and the errors that report that there is none.
use Rattle.std.specs.Prelude.{◌≡◌, ◌≢◌, ℕ, ◌*◌, ◌/◌, ◌%◌, ◌<◌, List, Bool, false, length, Option, Some, get_or}
use Rattle.run_types.specs.declared.types.Placement.{Placement}
use Rattle.run_types.specs.declared.types.Route.{Route}
use Rattle.run_types.specs.Tables.{Pair}
use Rattle.run_types.specs.Paths.{is_cut, next}
use Rattle.table_routing.specs.declared.fault.TableFault.{TableFault}
use Rattle.table_routing.specs.declared.fault.TableFault.TheVariants as F

-- the number of nodes
abbrev pub size : Placement → ℕ
size l = l.width * l.height

-- the placement with these routes instead of its own
abbrev pub with_routes : Placement → List Route → Placement
with_routes l rs = record { width = l.width; height = l.height; objects = l.objects; frames = l.frames; cells = l.cells; places = l.places; cuts = l.cuts; routes = rs }

-- the first n next nodes of a placement: the next node from `at` to another node `goal` has the index `at * size +
-- goal`
pub record AreNexts (l : Placement) (n : ℕ) (ns : List ℕ) : Type 0 where
  pub count : length ns ≡ n
  pub each : (i : ℕ) → i < n → i / size l ≢ i % size l → get_or ns i 0 ≡ next l (i / size l) (i % size l)

-- for the first n pairs of nodes, in the same order, whether the link from the one to the other is cut
pub record AreGaps (l : Placement) (n : ℕ) (gs : List Bool) : Type 0 where
  pub count : length gs ≡ n
  pub each : (i : ℕ) → i < n → get_or gs i false ≡ is_cut l.cuts (i / size l) (i % size l)

-- The reported pair is the first without a route; of `Memory` nothing is said.
abbrev pub ReportsFault : TableFault → Option Pair → Type 0
ReportsFault (F.NoRoute from to) told = told ≡ Some (from, to)
ReportsFault F.Memory told = Unit {0}
