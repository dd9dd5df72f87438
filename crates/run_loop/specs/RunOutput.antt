-- The text that is written while a run is made, and the conditions on the inputs of a run.
use Rattle.std.specs.Prelude.{◌≡◌, ℕ, ◌*◌, ◌≤◌, List, [], ◌∷◌, ◌++◌, length, slice_get, Option, Some, None, Result, Ok, Err, Bool, false}
use Rattle.std.specs.List.{AllByRecursion}
use Rattle.text_scan.specs.Text.{Text}
use Rattle.run_types.specs.declared.types.Item.{Item}
use Rattle.run_types.specs.declared.types.Label.TheVariants as L
use Rattle.run_types.specs.declared.types.Event.{Event}
use Rattle.run_types.specs.declared.types.What.{What}
use Rattle.run_types.specs.declared.types.What.TheVariants as W
use Rattle.run_types.specs.declared.types.Line.{Line}
use Rattle.run_types.specs.declared.types.Line.TheVariants as R
use Rattle.run_types.specs.declared.types.Placement.{Placement}
use Rattle.code_semantics.specs.declared.unit.Unit.{Unit as Code}
use Rattle.code_semantics.specs.Proper.{IsProper}
use Rattle.code_semantics.specs.Suits.{Suits}
use Rattle.mesh_semantics.specs.Config.{Config}
use Rattle.mesh_semantics.specs.Delay.{Delay}
use Rattle.mesh_semantics.specs.Record.{Record, labels, record_from, start}
use Rattle.mesh_of_code.specs.Coded.{Placed, coded}
use Rattle.pool_machine.specs.MachineOf.{MachineOf}
use Rattle.pool_machine.specs.Answers.{MachineRepresents}
use Rattle.pool_machine.specs.SentPackets.{nothing_sent}
use Rattle.schedule_reader.specs.Plans.{IsEventOn}
use Rattle.schedule_reader.specs.Schedules.{Plan}
use Rattle.run_types.specs.Asks.{request_number_of}
use Rattle.record_writer.specs.Writable.{IsWritable}
use Rattle.record_writer.specs.SecondForm.{form_text, line_text2}
use Rattle.run_record.specs.declared.asks.Asks.{Asks}
use Rattle.run_record.specs.Table.{HasLast}
use Rattle.command_line.specs.declared.command.Show.{Show}
use Rattle.command_line.specs.declared.command.Show.TheVariants as Sh
use Rattle.run_loop.specs.declared.drive.RunEnd.{RunEnd}
use Rattle.pool_outside.specs.declared.calls.WriteFault.{WriteFault}
use Rattle.command_shell.specs.Writing.{Writing, Wrote, WroteFront}
use Rattle.run_loop.specs.Shown.{ended, end_text, events_in, moves_in, record_over, shows_fault, status_of}
use Rattle.record_writer.specs.WrittenText.{writes_of}

-- the item that a step writes
abbrev pub item_of : What → Option Item
item_of (W.Step (L.Write o item) times) = Some item
item_of _ = None

-- whether a line shows a run-time error
abbrev pub tells_fault : Line → Bool
tells_fault (R.Event number e what) = shows_fault what
tells_fault (R.End e) = false

-- the text before the first line: for a record the line that names its format
abbrev pub shown_first : Show → Text
shown_first Sh.Record = form_text ++ 10 ∷ []
shown_first Sh.Writes = []
shown_first Sh.Report = []

-- the text of a line with this request number
abbrev pub shown_line : Show → List Text → ℕ → Line → Text
shown_line Sh.Record names ask l = line_text2 names l ask
shown_line Sh.Writes names ask l = writes_of names l
shown_line Sh.Report names ask l = end_text names l

-- the text of these lines after the earlier ones, of which the latest is the first
abbrev pub shown_lines : Show → List Text → List Line → List Line → Text
shown_lines show names earlier [] = []
shown_lines show names earlier (l ∷ ls) = shown_line show names (request_number_of earlier l) l ++ shown_lines show names (l ∷ earlier) ls

-- the text of all lines of a record
abbrev pub shown_record : Show → List Text → List Line → Text
shown_record show names ls = shown_first show ++ shown_lines show names [] ls

-- a quantum from 1 to 10,000, and at most 2,000,000 events of
-- the placement's mesh; wire events only if the links are wires
pub record IsPlanOn (l : Placement) (plan : Plan) : Type 0 where
  pub quantum : (1 ≤ plan.quantum) × (plan.quantum ≤ 10000)
  pub events : (i : ℕ) (e : Event) → slice_get plan.events i ≡ Some e → IsEventOn l plan.lossy e
  pub count : length plan.events ≤ 2000000

-- code, a placement and a schedule that fit each other, and each line of their record can be written
pub record IsLoaded (u : Code) (l : Placement) (plan : Plan) : Type 0 where
  pub proper : IsProper u
  pub suits : Suits l u
  pub writable : AllByRecursion (IsWritable u.names) (record_over (coded u) l plan).lines
  pub planned : IsPlanOn l plan

-- a table for the objects of the placement's nodes, with the latest requests that these lines post
pub record IsTableOf (l : Placement) (asks : Asks) (earlier : List Line) : Type 0 where
  pub nodes : asks.nodes ≡ l.width * l.height
  pub objects : asks.objects ≡ l.objects
  pub last : HasLast asks earlier

-- a machine that represents some configuration
pub record IsUnderWay (m : MachineOf) : Type 0 where
  pub config : Config Placed
  pub delay : Delay
  pub stands : MachineRepresents m config delay

-- a machine that represents the start, with nothing on its way
pub record HasBegun (m : MachineOf) (plan : Plan) : Type 0 where
  pub config : Config Placed
  pub starts : start (coded m.unit) m.placement ≡ Some config
  pub stands : MachineRepresents m config (nothing_sent plan.lossy)

-- the record of a run from c and d, after `done` events
abbrev pub run_from : Code → Placement → Plan → Config Placed → Delay → ℕ → List Event → Record Placed
run_from u l plan c d done es = record_from (coded u) l plan.quantum c d done es

-- A run from c and d that has this end. The machine represents the last configuration of the record and has its counts.
-- All text was written except the end line.
pub record HasRun (show : Show) (u : Code) (l : Placement) (plan : Plan) (c : Config Placed) (d : Delay) (m : MachineOf) (k : Writing) (e : RunEnd) : Type 0 where
  pub unit : m.unit ≡ u
  pub placement : m.placement ≡ l
  pub stands : MachineRepresents m (run_from u l plan c d 0 plan.events).last (run_from u l plan c d 0 plan.events).delay
  pub text : Text
  pub wrote : Wrote k text
  pub silent : show ≡ Sh.Report → text ≡ []
  pub lines : shown_record show u.names (run_from u l plan c d 0 plan.events).lines ≡ text ++ (shown_line show u.names 0 (R.End e.end) ++ [])
  pub status : status_of (run_from u l plan c d 0 plan.events).lines ≡ ended e.faulted e.end
  pub events : events_in (run_from u l plan c d 0 plan.events).lines ≡ m.done
  pub moves : moves_in (run_from u l plan c d 0 plan.events).lines ≡ m.moves
  pub transitions : length (labels (run_from u l plan c d 0 plan.events).lines) ≡ m.transitions

-- a run has ended; or a write failed after a prefix of the text was written, which is empty for a report
pub data Drives (show : Show) (u : Code) (l : Placement) (plan : Plan) (c : Config Placed) (d : Delay) (m : MachineOf) (k : Writing) (result : Result RunEnd WriteFault) : Type 0 where
  run : (e : RunEnd) → result ≡ Ok e → HasRun show u l plan c d m k e → Drives show u l plan c d m k result
  stopped : (f : WriteFault) → result ≡ Err f → WroteFront k (shown_record show u.names (run_from u l plan c d 0 plan.events).lines) → (show ≡ Sh.Report → WroteFront k [])
      → Drives show u l plan c d m k result
