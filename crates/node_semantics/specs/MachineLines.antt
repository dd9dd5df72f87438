-- The lines that a machine writes over a schedule, with a request number for each event from a list; and lists whose
-- numbers are fresh along the run.
use Rattle.std.specs.Prelude.{ℕ, ◌+◌, List, [], ◌∷◌, Option, Some, None, Bool, true, false}
use Rattle.run_types.specs.declared.types.Event.{Event}
use Rattle.run_types.specs.declared.types.End.TheVariants as E
use Rattle.run_types.specs.declared.types.Line.{Line}
use Rattle.run_types.specs.declared.types.Line.TheVariants as R
use Rattle.run_types.specs.declared.types.Placement.{Placement}
use Rattle.mesh_semantics.specs.Language.{Language}
use Rattle.node_semantics.specs.Machine as M
use Rattle.node_semantics.specs.Machine.{Machine, MachineActed, machine_act, machine_start, machine_start_on_wires, is_machine_quiet}
use Rattle.node_semantics.specs.Agrees.{IsFresh}

abbrev pub goes_on : {S : Type 0} → Event → ℕ → (Machine S → List Line) → MachineActed S → List Line
goes_on e done rest (M.Acts what m) = R.Event (done + 1) e what ∷ rest m
goes_on e done rest (M.Full kind node) = R.End (E.Full kind node done) ∷ []
goes_on e done rest M.Nothing = []

-- Each event takes the next number of the list, for a request that it posts. The lines end if the list has no number
-- left.
abbrev pub lines_from : {S : Type 0} → Language S → Placement → ℕ → Machine S → ℕ → List Event → List ℕ → List Line
lines_from g l q m done [] numbers = elim (is_machine_quiet g m) as (λ b. List Line) [ true ↦ R.End (E.Quiet done) ∷ [] | false ↦ R.End (E.Schedule done) ∷ [] ]
lines_from g l q m done (e ∷ es) [] = []
lines_from g l q m done (e ∷ es) (k ∷ numbers) = elim (is_machine_quiet g m) as (λ b. List Line) [
  | true ↦ R.End (E.Quiet done) ∷ []
  | false ↦ goes_on e done (λ m'. lines_from g l q m' (done + 1) es numbers) (machine_act g l q k m e)
]

abbrev pub lines_at : {S : Type 0} → Language S → Placement → ℕ → Option (Machine S) → List Event → List ℕ → List Line
lines_at g l q None es numbers = []
lines_at g l q (Some m) es numbers = lines_from g l q m 0 es numbers

abbrev pub machine_lines : {S : Type 0} → Language S → Placement → ℕ → List Event → List ℕ → List Line
machine_lines g l q es numbers = lines_at g l q (machine_start g l) es numbers

-- the lines over wires
abbrev pub machine_lines_on_wires : {S : Type 0} → Language S → Placement → ℕ → List Event → List ℕ → List Line
machine_lines_on_wires g l q es numbers = lines_at g l q (machine_start_on_wires g l) es numbers

-- P holds of the machine after a line; nothing is required after a limit
abbrev pub Then : {S : Type 0} → (Machine S → Type 0) → MachineActed S → Type 0
Then P (M.Acts what m) = P m
Then P (M.Full kind node) = Unit {0}
Then P M.Nothing = Unit {0}

abbrev pub UnlessQuiet : Bool → Type 0 → Type 0
UnlessQuiet true P = Unit {0}
UnlessQuiet false P = P

-- each event of the run has a number, which is not in use at the node of the event at that moment
abbrev pub AreFresh : {S : Type 0} → Language S → Placement → ℕ → Machine S → List Event → List ℕ → Type 0
AreFresh g l q m [] numbers = Unit {0}
AreFresh g l q m (e ∷ es) [] = ⊥
AreFresh g l q m (e ∷ es) (k ∷ numbers) =
    UnlessQuiet (is_machine_quiet g m) (IsFresh m k e × Then (λ m'. AreFresh g l q m' es numbers) (machine_act g l q k m e))

abbrev pub AreFreshAt : {S : Type 0} → Language S → Placement → ℕ → Option (Machine S) → List Event → List ℕ → Type 0
AreFreshAt g l q None es numbers = Unit {0}
AreFreshAt g l q (Some m) es numbers = AreFresh g l q m es numbers

-- the numbers are fresh along the run of the machine from its start
abbrev pub FreshAlong : {S : Type 0} → Language S → Placement → ℕ → List Event → List ℕ → Type 0
FreshAlong g l q es numbers = AreFreshAt g l q (machine_start g l) es numbers

-- the same over wires
abbrev pub FreshAlongWires : {S : Type 0} → Language S → Placement → ℕ → List Event → List ℕ → Type 0
FreshAlongWires g l q es numbers = AreFreshAt g l q (machine_start_on_wires g l) es numbers
