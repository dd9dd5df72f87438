-- The results of the readers of each input.
use Rattle.std.proofs.Common.{◌≡◌, ◌∙◌, ◌⊎◌, List, [], Some, None, IfOk, IsOk, IsErr, inl, inr, Result, Ok, Err, ◌≢◌, refl, sym, ap}
use Rattle.text_scan.specs.Text.{Text}
use Rattle.pool_syntax.specs.TreeOf.{program_of}
use Rattle.command_inputs.specs.declared.fault.Input.{Input}
use Rattle.command_inputs.specs.declared.fault.Input.TheVariants as I
use Rattle.command_inputs.specs.declared.program.Parsed.{Parsed}
use Rattle.command_inputs.specs.Programs.{IsFaultOfClasses, HasTypedFault, IsTypedProgram}
use Rattle.pool_syntax.specs.Typing.{faults}
use Rattle.run_types.specs.declared.types.Placement.{Placement}
use Rattle.code_semantics.specs.declared.unit.Unit.{Unit as Code}
use Rattle.code_semantics.specs.Proper.{IsProper}
use Rattle.placement_reader.specs.declared.fault.PlacementFault.{PlacementFault}
use Rattle.placement_reader.specs.declared.fault.PlacementFault.TheVariants as Place
use Rattle.placement_reader.specs.Placements as Pl
use Rattle.placement_reader.specs.ReaderFacts as ReaderFacts
use Rattle.placement_reader.specs.Placements.{placement_of}
use Rattle.schedule_reader.specs.declared.fault.ScheduleFault.{ScheduleFault}
use Rattle.schedule_reader.specs.declared.fault.ScheduleFault.TheVariants as Timed
use Rattle.schedule_reader.specs.Schedules as Sch
use Rattle.schedule_reader.specs.ReaderFacts as ReaderFactss
use Rattle.schedule_reader.specs.Schedules.{schedule_of}
use Rattle.command_inputs.specs.declared.fault.UnitFault.{UnitFault}
use Rattle.command_inputs.specs.declared.fault.UnitFault.TheVariants as Filed
use Rattle.pool_driver.specs.UnitFiles.{IsUnitFault}
use Rattle.pool_driver.specs.UnitOfFile.{IsUnitOfFile}
use Rattle.pool_driver.proofs.OneFilePerText.{refused}
use Rattle.command_inputs.specs.declared.fault.Fault.{Fault}
use Rattle.command_inputs.specs.declared.fault.Fault.TheVariants as Why
use Rattle.command_inputs.specs.declared.fault.InputError.{InputError}
use Rattle.command_inputs.specs.declared.fault.InputError.TheVariants as T
use Rattle.pool_driver.specs.Inputs.{unit_of}
use Rattle.command_inputs.specs.Readers as J
use Rattle.pool_driver.specs.Readers.{HasPlacementFault, HasScheduleFault, HasUnitFault, IsAcceptedPlacement, IsAcceptedSchedule, IsAcceptedUnit, IsPlacedAs, IsScheduledAs, IsUnitOf, stop_of_placement, stop_of_schedule, stop_of_unit}
use Rattle.command_inputs.proofs.Laws.{judges_refusal}
use Rattle.command_inputs.specs.Readers.{IsProgramOf, Judges}

-- what the compiler says of a program that was read
pub unit_judged : (s : Text) (read : Parsed) (result : Result Code InputError) → IsProgramOf s read → IfOk result (λ u. u ≡ unit_of read.names (program_of read.program)) → IfOk result (λ u. IsProper u)
    → (IsOk result → faults (program_of read.program) ≡ []) → (faults (program_of read.program) ≡ [] → IsErr result → result ≡ Err T.Memory)
    → ((i : Input) (f : Fault) → result ≡ Err (T.Refused i f) → (i ≡ I.Program) × IsFaultOfClasses (program_of read.program) f) → ((i : Input) → result ≢ Err (T.Unread i))
    → Judges I.Program IsTypedProgram HasTypedFault IsUnitOf s result
unit_judged s read (Ok u) is code proper typed only refused unread = J.fits u refl (record {
  code = record { names = read.names; program = program_of read.program; parsed = is.parsed; typed = typed refl; coded = code };
  proper = proper;
  only = λ v h. let same = is.only h.names h.program h.parsed in h.coded ∙ sym (code ∙ ap (λ (n : List Text). unit_of n (program_of read.program)) same.0 ∙ ap (unit_of h.names) same.1);
})
unit_judged s read (Err stop) is code proper typed only refused unread =
    judges_refusal I.Program IsTypedProgram HasTypedFault IsUnitOf s stop
    (λ i f e. let why = refused i f (ap Err e) in (why.0, inr (program_of read.program, (read.names, is.parsed), why.1)))
    (λ i e. unread i (ap Err e))
    (λ q. let z = only (ap faults (is.only q.1.0.0 q.0 q.1.0.1).1 ∙ q.1.1) refl in let same : stop ≡ T.Memory = cc in same)

-- what the readers of a placement and of a schedule say of a text

placement_fails : (u : Code) (s : Text) (f : PlacementFault) (stop : InputError) → stop ≡ T.Refused I.Placement (Why.Placement f) → Pl.fault_in (placement_of u s) ≡ Some f
    → Judges I.Placement (IsAcceptedPlacement u) (HasPlacementFault u) (IsPlacedAs u) s (Err stop)
placement_fails u s f stop e told = J.fails (Why.Placement f) (ap Err e) (f, refl, told) (λ q. let z : None ≡ Some f = sym (ap Pl.fault_in q.1) ∙ told in cc)

pub placement_refused : (u : Code) (s : Text) (f : PlacementFault) (stop : InputError) → stop ≡ stop_of_placement f → ReaderFacts.ReportsFault f (Pl.fault_in (placement_of u s))
    → Judges I.Placement (IsAcceptedPlacement u) (HasPlacementFault u) (IsPlacedAs u) s (Err stop)
placement_refused u s (Place.BadLine line) stop e told = placement_fails u s (Place.BadLine line) stop e told
placement_refused u s (Place.UnknownClass line) stop e told = placement_fails u s (Place.UnknownClass line) stop e told
placement_refused u s (Place.Repeated line) stop e told = placement_fails u s (Place.Repeated line) stop e told
placement_refused u s (Place.NoSuchNode line) stop e told = placement_fails u s (Place.NoSuchNode line) stop e told
placement_refused u s (Place.OutOfRange line) stop e told = placement_fails u s (Place.OutOfRange line) stop e told
placement_refused u s (Place.TooLarge words) stop e told = placement_fails u s (Place.TooLarge words) stop e told
placement_refused u s Place.Memory stop e told = J.forgets (ap Err e)
placement_refused u s (Place.NoSuchLink line) stop e told = placement_fails u s (Place.NoSuchLink line) stop e told
placement_refused u s (Place.NoRoute from to) stop e told = placement_fails u s (Place.NoRoute from to) stop e told

schedule_fails : (l : Placement) (s : Text) (f : ScheduleFault) (stop : InputError) → stop ≡ T.Refused I.Schedule (Why.Schedule f) → Sch.fault_in (schedule_of l.width l.height l.cuts s) ≡ Some f
    → Judges I.Schedule (IsAcceptedSchedule l) (HasScheduleFault l) (IsScheduledAs l) s (Err stop)
schedule_fails l s f stop e told = J.fails (Why.Schedule f) (ap Err e) (f, refl, told) (λ q. let z : None ≡ Some f = sym (ap Sch.fault_in q.1) ∙ told in cc)

pub schedule_refused : (l : Placement) (s : Text) (f : ScheduleFault) (stop : InputError) → stop ≡ stop_of_schedule f → ReaderFactss.ReportsFault f (Sch.fault_in (schedule_of l.width l.height l.cuts s))
    → Judges I.Schedule (IsAcceptedSchedule l) (HasScheduleFault l) (IsScheduledAs l) s (Err stop)
schedule_refused l s (Timed.BadLine line) stop e told = schedule_fails l s (Timed.BadLine line) stop e told
schedule_refused l s (Timed.NoSuchNode line) stop e told = schedule_fails l s (Timed.NoSuchNode line) stop e told
schedule_refused l s (Timed.NoSuchLink line) stop e told = schedule_fails l s (Timed.NoSuchLink line) stop e told
schedule_refused l s (Timed.OutOfRange line) stop e told = schedule_fails l s (Timed.OutOfRange line) stop e told
schedule_refused l s (Timed.TooManyEvents count) stop e told = schedule_fails l s (Timed.TooManyEvents count) stop e told
schedule_refused l s Timed.Memory stop e told = J.forgets (ap Err e)

-- and of an object code file

unit_fails : (s : Text) (f : UnitFault) (stop : InputError) → stop ≡ T.Refused I.Unit (Why.Unit f) → IsUnitFault s f → Judges I.Unit IsAcceptedUnit HasUnitFault IsUnitOfFile s (Err stop)
unit_fails s f stop e told = J.fails (Why.Unit f) (ap Err e) (f, refl, told) (λ q. refused s f q.0 told q.1)

pub unit_refused : (s : Text) (f : UnitFault) (stop : InputError) → stop ≡ stop_of_unit f → (f ≡ Filed.Memory) ⊎ IsUnitFault s f → Judges I.Unit IsAcceptedUnit HasUnitFault IsUnitOfFile s (Err stop)
unit_refused s (Filed.BadBytes at) stop e (inl z) = absurd (let y : Filed.BadBytes at ≡ Filed.Memory = z in cc)
unit_refused s (Filed.BadBytes at) stop e (inr told) = unit_fails s (Filed.BadBytes at) stop e told
unit_refused s (Filed.NameTwice place) stop e (inl z) = absurd (let y : Filed.NameTwice place ≡ Filed.Memory = z in cc)
unit_refused s (Filed.NameTwice place) stop e (inr told) = unit_fails s (Filed.NameTwice place) stop e told
unit_refused s (Filed.Header j) stop e (inl z) = absurd (let y : Filed.Header j ≡ Filed.Memory = z in cc)
unit_refused s (Filed.Header j) stop e (inr told) = unit_fails s (Filed.Header j) stop e told
unit_refused s (Filed.Code j i) stop e (inl z) = absurd (let y : Filed.Code j i ≡ Filed.Memory = z in cc)
unit_refused s (Filed.Code j i) stop e (inr told) = unit_fails s (Filed.Code j i) stop e told
unit_refused s Filed.Memory stop e told = J.forgets (ap Err e)
