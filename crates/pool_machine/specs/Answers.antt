-- The outcomes that a machine reports, for every sound configuration of code, with its delay, that the machine
-- represents.
use Rattle.std.specs.Prelude.{◌≡◌, ℕ, ◌+◌, ◌*◌, ◌<◌, length, Option, Some, Bool, true, is_some}
use Rattle.run_types.specs.declared.types.Event.{Event}
use Rattle.run_types.specs.declared.types.Event.TheVariants as Ev
use Rattle.run_types.specs.declared.types.What.{What}
use Rattle.run_types.specs.declared.types.Line.TheVariants as R
use Rattle.run_types.specs.declared.types.Placement.{Placement}
use Rattle.code_semantics.specs.declared.unit.Unit.{Unit as Code}
use Rattle.mesh_semantics.specs.Config.{Config, object_of}
use Rattle.mesh_semantics.specs.Delay.{Delay}
use Rattle.mesh_semantics.specs.Act as A
use Rattle.mesh_semantics.specs.Act.{Acted}
use Rattle.run_types.specs.Paths.{IsLink}
use Rattle.mesh_semantics.specs.Record.{shown, start}
use Rattle.mesh_semantics.specs.Sound.{IsSound}
use Rattle.mesh_semantics.specs.Standing as T
use Rattle.mesh_semantics.specs.Standing.{standing}
use Rattle.run_types.specs.Partial.{◌>>=◌}
use Rattle.node_semantics.specs.WiresStandFor.{StandsFor}
use Rattle.mesh_of_code.specs.Coded.{Placed, coded}
use Rattle.mesh_of_code.specs.CodeInvariant.{IsOfCode}
use Rattle.pool_machine.specs.AnswerOf.{Answer}
use Rattle.pool_machine.specs.AnswerOf as O
use Rattle.pool_machine.specs.MachineOf.{MachineOf, machine_of}
use Rattle.pool_machine.specs.SentPackets.{moved, nothing_sent}

-- the node or the link of the event is one of the mesh
abbrev pub IsOfMesh : Placement → Event → Type 0
IsOfMesh l (Ev.Turn n) = n < l.width * l.height
IsOfMesh l (Ev.Link a b) = IsLink l (a, b)
IsOfMesh l (Ev.Wire w a b) = IsLink l (a, b)

-- an event on a wire requires that links are wires
abbrev pub IsServed : Bool → Event → Type 0
IsServed lossy (Ev.Turn n) = Unit {0}
IsServed lossy (Ev.Link a b) = Unit {0}
IsServed lossy (Ev.Wire w a b) = lossy ≡ true

-- The machine represents a sound configuration of code with its delay.
pub record MachineRepresents (m : MachineOf) (c : Config Placed) (d : Delay) : Type 0 where
  pub sound : IsSound (coded m.unit) (IsOfCode m.unit) m.placement c d
  pub stands : StandsFor (coded m.unit) m.placement (machine_of m) c d

-- A new machine: no event was made, and it represents the initial configuration, with nothing in transit.
pub record IsStart (u : Code) (l : Placement) (wired : Bool) (m : MachineOf) : Type 0 where
  pub unit : m.unit ≡ u
  pub placement : m.placement ≡ l
  pub lossy : is_some m.wires ≡ wired
  pub done : m.done ≡ 0
  pub moves : m.moves ≡ 0
  pub transitions : m.transitions ≡ 0
  pub stands : (c : Config Placed) → start (coded u) l ≡ Some c → MachineRepresents m c (nothing_sent wired)

-- The machine after an event has the same unit, placement and kind of links, and counts the event.
pub record IsAfter (old new : MachineOf) (e : Event) (what : What) : Type 0 where
  pub unit : new.unit ≡ old.unit
  pub placement : new.placement ≡ old.placement
  pub lossy : is_some new.wires ≡ is_some old.wires
  pub done : new.done ≡ old.done + 1
  pub moves : new.moves ≡ old.moves + moved e what
  pub transitions : new.transitions ≡ old.transitions + length (shown what)

-- The outcome is the act of the configuration. It is the line with the next number, and the machine then represents the
-- configuration after it. Or it is the limit, and the machine is unchanged.
abbrev pub IsOutcome : Event → MachineOf → Answer → MachineOf → Acted Placed → Type 0
IsOutcome e old (O.Line line) new (A.Acts w c d) = (line ≡ R.Event (old.done + 1) e w) × IsAfter old new e w × MachineRepresents new c d
IsOutcome e old (O.Full kind node) new (A.Full k n) = (kind ≡ k) × (node ≡ n) × (new ≡ old)
IsOutcome e old _ new _ = ⊥

-- the status of the object of this name, if there is one
abbrev pub standing_at : Code → Config Placed → Delay → ℕ → Option T.Standing
standing_at u c d o = object_of c o >>= λ x. Some (standing (coded u) d o x)

-- the class of the object of this name, if there is one
abbrev pub class_at : Code → Config Placed → ℕ → Option ℕ
class_at u c o = object_of c o >>= λ x. Some ((coded u).class x)
