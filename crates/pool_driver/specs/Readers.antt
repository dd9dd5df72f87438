-- The possible results of the functions that read inputs and make outputs, below the top-level function.
use Rattle.std.specs.Prelude.{◌≡◌, ℕ, List, [], true, Some, None, Result, Ok, Err}
use Rattle.text_scan.specs.Text.{Text}
use Rattle.pool_syntax.specs.Spelled.{is_spelled}
use Rattle.pool_syntax.specs.TreeOf.{program_of}
use Rattle.run_types.specs.declared.types.Line.{Line}
use Rattle.run_types.specs.declared.types.Placement.{Placement}
use Rattle.pool_printer.specs.Canonical.{canonical}
use Rattle.code_semantics.specs.declared.unit.Unit.{Unit as Code}
use Rattle.object_code.specs.FileBytes.{file_bytes}
use Rattle.object_code.specs.Listing.{listing}
use Rattle.code_semantics.specs.Proper.{IsProper}
use Rattle.code_semantics.specs.Shaped.{IsShaped, IsShort}
use Rattle.code_semantics.specs.Suits.{Suits}
use Rattle.placement_reader.specs.declared.fault.PlacementFault.{PlacementFault}
use Rattle.placement_reader.specs.declared.fault.PlacementFault.TheVariants as Place
use Rattle.placement_reader.specs.Placements as P
use Rattle.placement_reader.specs.Placements.{placement_of}
use Rattle.schedule_reader.specs.declared.fault.ScheduleFault.{ScheduleFault}
use Rattle.schedule_reader.specs.declared.fault.ScheduleFault.TheVariants as Timed
use Rattle.schedule_reader.specs.Schedules as Sch
use Rattle.schedule_reader.specs.Schedules.{Plan, schedule_of}
use Rattle.std.specs.List.{All}
use Rattle.run_types.specs.Asks.{asks}
use Rattle.record_writer.specs.SecondForm.{text2}
use Rattle.record_writer.specs.Writable.{IsWritable}
use Rattle.run_record.specs.Numbered.{lines_after, names_after}
use Rattle.run_record.specs.Records as Rec
use Rattle.pool_driver.specs.declared.converted.Recorded.{Recorded}
use Rattle.run_loop.specs.declared.loaded.Loaded.{Loaded}
use Rattle.command_inputs.specs.declared.fault.Input.{Input}
use Rattle.command_inputs.specs.declared.fault.Input.TheVariants as I
use Rattle.command_inputs.specs.declared.fault.Fault.{Fault}
use Rattle.command_inputs.specs.declared.fault.Fault.TheVariants as F
use Rattle.command_inputs.specs.declared.fault.InputError.{InputError}
use Rattle.command_inputs.specs.declared.fault.InputError.TheVariants as T
use Rattle.pool_driver.specs.declared.outputs.Output.{Output}
use Rattle.pool_driver.specs.declared.outputs.Output.TheVariants as O
use Rattle.command_shell.specs.declared.status.Status.{Status}
use Rattle.command_shell.specs.declared.status.Status.TheVariants as S
use Rattle.command_shell.specs.Verdicts.{status_of_verdict}
use Rattle.command_line.specs.Commands.{Request}
use Rattle.pool_driver.specs.Inputs.{IsCodeOf, StopAt}
use Rattle.pool_driver.specs.UnitFiles.{IsUnitFault, IsVerifiedFile}
use Rattle.code_semantics.specs.declared.file.UnitFile.{UnitFile}
use Rattle.command_inputs.specs.declared.fault.UnitFault.{UnitFault}
use Rattle.command_inputs.specs.declared.fault.UnitFault.TheVariants as Filed
use Rattle.run_loop.specs.RunOutput.{IsLoaded}
use Rattle.run_loop.specs.Shown.{ring_text, status_of}
use Rattle.run_loop.specs.Loading.{lines_of, run_text}
use Rattle.pool_driver.specs.Outputs.{IsRingOf}
use Rattle.run_types.specs.declared.verdicts.Verdict.{Verdict}
use Rattle.record_check.specs.RecordJudgement.{Judged}
use Rattle.record_check.specs.VerdictText.{verdict_text}
use Rattle.pool_gen.specs.Ring.{ring_placement, ring_program, ring_schedule}
use Rattle.pool_syntax.specs.Terms.{ProgramTree}
use Rattle.pool_outside.specs.Reading.{Reading}
use Rattle.pool_driver.specs.Ends.{pool_program}
use Rattle.command_shell.specs.Results as Results

-- out of memory is not a fault of the text

abbrev pub stop_of_placement : PlacementFault → InputError
stop_of_placement Place.Memory = T.Memory
stop_of_placement f = T.Refused I.Placement (F.Placement f)

abbrev pub stop_of_schedule : ScheduleFault → InputError
stop_of_schedule Timed.Memory = T.Memory
stop_of_schedule f = T.Refused I.Schedule (F.Schedule f)

abbrev pub stop_of_unit : UnitFault → InputError
stop_of_unit Filed.Memory = T.Memory
stop_of_unit f = T.Refused I.Unit (F.Unit f)

-- a placement of a unit

abbrev pub IsAcceptedPlacement : Code → Text → Type 0
IsAcceptedPlacement u s = (l : Placement) × (placement_of u s ≡ Ok l)

abbrev pub HasPlacementFault : Code → Text → Fault → Type 0
HasPlacementFault u s f = (g : PlacementFault) × (f ≡ F.Placement g) × (P.fault_in (placement_of u s) ≡ Some g)

abbrev pub IsPlacedAs : Code → Text → Placement → Type 0
IsPlacedAs u s l = (placement_of u s ≡ Ok l) × Suits l u

-- a schedule of a placement

abbrev pub IsAcceptedSchedule : Placement → Text → Type 0
IsAcceptedSchedule l s = (plan : Plan) × (schedule_of l.width l.height l.cuts s ≡ Ok plan)

abbrev pub HasScheduleFault : Placement → Text → Fault → Type 0
HasScheduleFault l s f = (g : ScheduleFault) × (f ≡ F.Schedule g) × (Sch.fault_in (schedule_of l.width l.height l.cuts s) ≡ Some g)

abbrev pub IsScheduledAs : Placement → Text → Plan → Type 0
IsScheduledAs l s plan = schedule_of l.width l.height l.cuts s ≡ Ok plan

-- the code of a program; a text has only one

pub record IsUnitOf (s : Text) (u : Code) : Type 0 where
  pub code : IsCodeOf s u
  pub proper : IsProper u
  pub only : (v : Code) → IsCodeOf s v → v ≡ u

-- an object code file that is verified

abbrev pub IsAcceptedUnit : Text → Type 0
IsAcceptedUnit s = (f : UnitFile) × IsVerifiedFile s f

abbrev pub HasUnitFault : Text → Fault → Type 0
HasUnitFault s f = (g : UnitFault) × (f ≡ F.Unit g) × IsUnitFault s g

-- a record of either form, with the table of the names in its lines

-- the lines can be written with the table, and these are their request numbers
pub record IsShowable (r : Recorded) : Type 0 where
  pub writable : All (IsWritable r.names) r.lines
  pub asked : r.asks ≡ asks r.lines

pub record IsRecordOf (s : Text) (r : Recorded) : Type 0 where
  pub faultless : (Rec.record_of s).fault ≡ None
  pub lines : r.lines ≡ lines_after [] (Rec.record_of s).told
  pub names : r.names ≡ names_after [] (Rec.record_of s).told
  pub showable : IsShowable r

-- the text of an output, and its status
abbrev pub text_of : Output → Text
text_of (O.Run show loaded) = run_text show loaded
text_of (O.Ring loaded) = ring_text loaded.unit.names (lines_of loaded)
text_of (O.Canonical parsed) = canonical parsed.names (program_of parsed.program)
text_of (O.Listing unit) = listing unit
text_of (O.File file) = file_bytes file
text_of (O.Converted r) = text2 r.names r.lines
text_of (O.Verdict line status) = line.items

abbrev pub status_of_output : Output → Status
status_of_output (O.Run show loaded) = status_of (lines_of loaded)
status_of_output (O.Ring loaded) = status_of (lines_of loaded)
status_of_output (O.Canonical parsed) = S.Done
status_of_output (O.Listing unit) = S.Done
status_of_output (O.File file) = S.Done
status_of_output (O.Converted r) = S.Done
status_of_output (O.Verdict line status) = status

-- The output can be written. A run has inputs that fit each other, and a program has its names in its table.
-- Code is proper, a file is shaped and short, and lines have their request numbers.
abbrev pub IsPrintable : Output → Type 0
IsPrintable (O.Run show loaded) = IsLoaded loaded.unit loaded.placement loaded.schedule
IsPrintable (O.Ring loaded) = IsLoaded loaded.unit loaded.placement loaded.schedule
IsPrintable (O.Canonical parsed) = is_spelled parsed.names (program_of parsed.program) ≡ true
IsPrintable (O.Listing unit) = IsProper unit
IsPrintable (O.File file) = IsShaped file × IsShort file
IsPrintable (O.Converted r) = IsShowable r
IsPrintable (O.Verdict line status) = Unit {0}

-- The results for three texts: loaded inputs, the first text that is not accepted with its fault, or out of memory.
pub data Loads (program placement schedule : Text) (result : Result Loaded InputError) : Type 0 where
  loads : (r : Loaded) → result ≡ Ok r → IsUnitOf program r.unit → IsPlacedAs r.unit placement r.placement → IsScheduledAs r.placement schedule r.schedule → Loads program placement schedule result
  stops : (input : Input) (f : Fault) → result ≡ Err (T.Refused input f) → StopAt program placement schedule input f → Loads program placement schedule result
  lacks : result ≡ Err T.Memory → Loads program placement schedule result

-- the results for the texts of a ring
pub data Rings (k : ℕ) (result : Result Output InputError) : Type 0 where
  rings : (o : Output) → result ≡ Ok o → IsRingOf k (text_of o) (status_of_output o) → IsPrintable o → Rings k result
  stops : (input : Input) (f : Fault) → result ≡ Err (T.Refused input f) → StopAt (ring_program k) ring_placement (ring_schedule k) input f → Rings k result
  lacks : result ≡ Err T.Memory → Rings k result

-- the results of the check of a record's lines against a program with these names
pub data Decides (names : List Text) (p : ProgramTree) (ls : List Line) (result : Result Output InputError) : Type 0 where
  decides : (o : Output) (v : Verdict) → result ≡ Ok o → Judged p ls v → ((w : Verdict) → Judged p ls w → w ≡ v) → text_of o ≡ verdict_text names v → status_of_output o ≡ status_of_verdict v
      → IsPrintable o → Decides names p ls result
  lacks : result ≡ Err T.Memory → Decides names p ls result

-- the results for the inputs of a request
abbrev pub ResultsIn : Reading → Request → Result Output InputError → Type 0
ResultsIn k r result = Results.ResultsIn pool_program text_of status_of_output IsPrintable k r result
