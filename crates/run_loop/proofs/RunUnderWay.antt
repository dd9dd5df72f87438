-- A run under way: its machine, its table of requests and its written text after some events.
use Rattle.std.specs.Prelude.{◌≡◌, ℕ, ◌+◌, List, [], ◌++◌, length, drop, Bool, false, is_some}
use Rattle.std.specs.List.{AllByRecursion}
use Rattle.text_scan.specs.Text.{Text}
use Rattle.run_types.specs.declared.types.Line.{Line}
use Rattle.run_types.specs.declared.types.Placement.{Placement}
use Rattle.code_semantics.specs.declared.unit.Unit.{Unit as Code}
use Rattle.mesh_semantics.specs.Config.{Config}
use Rattle.mesh_semantics.specs.Delay.{Delay}
use Rattle.mesh_semantics.specs.Record.{Record, labels}
use Rattle.mesh_of_code.specs.Coded.{Placed}
use Rattle.pool_machine.specs.MachineOf.{MachineOf}
use Rattle.pool_machine.specs.Answers.{MachineRepresents}
use Rattle.schedule_reader.specs.Schedules.{Plan}
use Rattle.record_writer.specs.Writable.{IsWritable}
use Rattle.run_record.specs.declared.asks.Asks.{Asks}
use Rattle.command_line.specs.declared.command.Show.{Show}
use Rattle.command_line.specs.declared.command.Show.TheVariants as Sh
use Rattle.command_shell.specs.Writing.{Writing, Wrote}
use Rattle.run_loop.specs.Shown.{events_in, moves_in, status_after}
use Rattle.run_loop.specs.RunOutput.{shown_lines, shown_record, IsTableOf, run_from}

-- What is the same of two records: their ends, and the counts of their lines, where the second has these fewer.
pub record GoesTo (a b : Record Placed) (made moving changes : ℕ) : Type 0 where
  pub last : a.last ≡ b.last
  pub delay : a.delay ≡ b.delay
  pub events : events_in a.lines ≡ made + events_in b.lines
  pub moves : moves_in a.lines ≡ moving + moves_in b.lines
  pub transitions : length (labels a.lines) ≡ changes + length (labels b.lines)

-- A run from c and d under way, after so many events: the machine has wires where the schedule is lossy, and stands for what is after the events; the table has the posts of
-- their lines, their text was written, the lines that are left can be written where all lines can, and what is shown of all lines is this text and then what is
-- shown of the lines of the events that are left. A report shows nothing of
-- these lines.
pub record IsGoing (show : Show) (u : Code) (l : Placement) (plan : Plan) (c : Config Placed) (d : Delay) (m : MachineOf) (asks : Asks) (done : ℕ) (faulted : Bool) (k : Writing) : Type 0 where
  pub unit : m.unit ≡ u
  pub placement : m.placement ≡ l
  pub wired : is_some m.wires ≡ plan.lossy
  pub made : m.done ≡ done
  pub config : Config Placed
  pub delay : Delay
  pub stands : MachineRepresents m config delay
  pub earlier : List Line
  pub table : IsTableOf l asks earlier
  pub text : Text
  pub wrote : Wrote k text
  pub silent : show ≡ Sh.Report → text ≡ []
  pub lines : shown_record show u.names (run_from u l plan c d 0 plan.events).lines ≡ text ++ shown_lines show u.names earlier (run_from u l plan config delay done (drop done plan.events)).lines
  pub writable : AllByRecursion (IsWritable u.names) (run_from u l plan c d 0 plan.events).lines
      → AllByRecursion (IsWritable u.names) (run_from u l plan config delay done (drop done plan.events)).lines
  pub status : status_after false (run_from u l plan c d 0 plan.events).lines ≡ status_after faulted (run_from u l plan config delay done (drop done plan.events)).lines
  pub goes : GoesTo (run_from u l plan c d 0 plan.events) (run_from u l plan config delay done (drop done plan.events)) done m.moves m.transitions
