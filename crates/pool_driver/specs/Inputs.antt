-- The inputs of a request: their order and names, when the text of an input is accepted, and which fault it has.
use Rattle.std.specs.Prelude.{◌≡◌, List, [], ◌∷◌, Some, None, Ok}
use Rattle.text_scan.specs.Text.{Text}
use Rattle.pool_syntax.specs.Terms.{ProgramTree}
use Rattle.pool_syntax.specs.Typing.{faults}
use Rattle.run_types.specs.declared.types.Placement.{Placement}
use Rattle.code_semantics.specs.declared.file.UnitFile.{UnitFile}
use Rattle.code_semantics.specs.declared.unit.Unit.{Unit as Code}
use Rattle.pool_driver.specs.UnitFiles.{IsUnitFault, IsVerifiedFile}
use Rattle.pool_compile.specs.Code.{code}
use Rattle.placement_reader.specs.Placements as P
use Rattle.placement_reader.specs.Placements.{placement_of}
use Rattle.schedule_reader.specs.Schedules as S
use Rattle.schedule_reader.specs.Schedules.{Plan, schedule_of}
use Rattle.pool_gen.specs.Ring.{ring_placement, ring_program, ring_schedule}
use Rattle.command_inputs.specs.declared.fault.Input.{Input}
use Rattle.command_inputs.specs.declared.fault.Input.TheVariants as I
use Rattle.command_inputs.specs.declared.fault.Fault.{Fault}
use Rattle.command_inputs.specs.declared.fault.Fault.TheVariants as F
use Rattle.run_record.specs.Records.{record_of}
use Rattle.command_line.specs.Commands.{Request, of_run, of_program, of_ring, of_convert, of_check, of_load}
use Rattle.pool_outside.specs.Reading.{Told}
use Rattle.command_shell.specs.Programs.{AreServed}
use Rattle.command_inputs.specs.Programs.{IsParsed, HasTypedFault, IsTypedProgram}

-- the inputs of a request with the names of their files, in the order of reading
abbrev pub inputs : Request → List (Input × Text)
inputs (of_run show names) = (I.Program, names.program) ∷ (I.Placement, names.placement) ∷ (I.Schedule, names.schedule) ∷ []
inputs (of_program ask name) = (I.Program, name) ∷ []
inputs (of_ring k) = []
inputs (of_convert name) = (I.Record, name) ∷ []
inputs (of_check name record_name) = (I.Program, name) ∷ (I.Record, record_name) ∷ []
inputs (of_load unit_name place_name plan_name) = (I.Unit, unit_name) ∷ (I.Placement, place_name) ∷ (I.Schedule, plan_name) ∷ []

-- the code of a program, with the table of its names
abbrev pub unit_of : List Text → ProgramTree → Code
unit_of names p = record { names = names; classes = code p }

-- the text is a program without class faults, and u is its code
pub record IsCodeOf (source : Text) (u : Code) : Type 0 where
  pub names : List Text
  pub program : ProgramTree
  pub parsed : IsParsed source names program
  pub typed : faults program ≡ []
  pub coded : u ≡ unit_of names program

-- The text has this code: it is a program without class faults, or a verified object code file. No text is both.
pub data Gives (source : Text) (u : Code) : Type 0 where
  by_program : IsCodeOf source u → Gives source u
  by_file : (f : UnitFile) → IsVerifiedFile source f → u ≡ f.unit → Gives source u

-- the text is a placement for the code of the source
pub record IsPlacementOf (source s : Text) (l : Placement) : Type 0 where
  pub unit : Code
  pub code : Gives source unit
  pub placed : placement_of unit s ≡ Ok l

-- The text is accepted as this input, given the texts of the inputs before it.
-- A program has no class fault, an object code file is verified, and a record of either form has no fault.
-- A placement is for the classes of the code, and a schedule is for the mesh of the placement.
abbrev pub IsAccepted : List Text → Input → Text → Type 0
IsAccepted [] I.Program s = IsTypedProgram s
IsAccepted (source ∷ []) I.Placement s = (l : Placement) × IsPlacementOf source s l
IsAccepted (source ∷ place ∷ []) I.Schedule s = (l : Placement) × (plan : Plan) × IsPlacementOf source place l × (schedule_of l.width l.height l.cuts s ≡ Ok plan)
IsAccepted [] I.Unit s = (f : UnitFile) × IsVerifiedFile s f
IsAccepted [] I.Record s = (record_of s).fault ≡ None
IsAccepted (source ∷ []) I.Record s = (record_of s).fault ≡ None
IsAccepted _ _ s = ⊥

-- The text has this fault as this input, given the texts of the inputs before it.
-- Of a program it is the first fault of tokens, grammar or classes.
-- Of an object code file it is the first of bytes, names, headings or codes.
-- Of a placement, a schedule or a record it is the fault of the first faulty line, or one of the whole text.
abbrev pub HasFault : List Text → Input → Text → Fault → Type 0
HasFault [] I.Program s f = HasTypedFault s f
HasFault [] I.Unit s (F.Unit f) = IsUnitFault s f
HasFault (source ∷ []) I.Placement s (F.Placement f) = (u : Code) × Gives source u × (P.fault_in (placement_of u s) ≡ Some f)
HasFault (source ∷ place ∷ []) I.Schedule s (F.Schedule f) = (l : Placement) × IsPlacementOf source place l × (S.fault_in (schedule_of l.width l.height l.cuts s) ≡ Some f)
HasFault [] I.Record s (F.Record f) = (record_of s).fault ≡ Some f
HasFault (source ∷ []) I.Record s (F.Record f) = (record_of s).fault ≡ Some f
HasFault _ _ s f = ⊥

-- these three texts are accepted, each given those before it
abbrev pub AreAccepted : Text → Text → Text → Type 0
AreAccepted program placement schedule =
    IsAccepted [] I.Program program × IsAccepted (program ∷ []) I.Placement placement × IsAccepted (program ∷ placement ∷ []) I.Schedule schedule

-- this is the first of the three texts that is not accepted, and it has this fault
abbrev pub StopAt : Text → Text → Text → Input → Fault → Type 0
StopAt program placement schedule I.Program f = HasFault [] I.Program program f × (IsAccepted [] I.Program program → ⊥)
StopAt program placement schedule I.Placement f =
    IsAccepted [] I.Program program × HasFault (program ∷ []) I.Placement placement f × (IsAccepted (program ∷ []) I.Placement placement → ⊥)
StopAt program placement schedule I.Schedule f =
    IsAccepted [] I.Program program × IsAccepted (program ∷ []) I.Placement placement × HasFault (program ∷ placement ∷ []) I.Schedule schedule f
    × (IsAccepted (program ∷ placement ∷ []) I.Schedule schedule → ⊥)
StopAt program placement schedule I.Record f = ⊥
StopAt program placement schedule I.Unit f = ⊥

-- all inputs of the request are accepted; a ring has no inputs, and its generated texts are accepted
abbrev pub IsServable : Told → Request → Type 0
IsServable told (of_run show names) = AreServed IsAccepted told [] (inputs (of_run show names))
IsServable told (of_program ask name) = AreServed IsAccepted told [] (inputs (of_program ask name))
IsServable told (of_convert name) = AreServed IsAccepted told [] (inputs (of_convert name))
IsServable told (of_check name record_name) = AreServed IsAccepted told [] (inputs (of_check name record_name))
IsServable told (of_load unit_name place_name plan_name) = AreServed IsAccepted told [] (inputs (of_load unit_name place_name plan_name))
IsServable told (of_ring k) = AreAccepted (ring_program k) ring_placement (ring_schedule k)
