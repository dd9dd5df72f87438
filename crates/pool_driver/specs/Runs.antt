-- The meaning of a program, a placement and a schedule together, and the claim that their record shows a run.
-- The same for an object code file instead of a program.
use Rattle.std.specs.Prelude.{◌≡◌, List, [], Ok, Some}
use Rattle.text_scan.specs.Text.{Text}
use Rattle.pool_syntax.specs.Terms.{ProgramTree}
use Rattle.pool_syntax.specs.Typing.{faults}
use Rattle.run_types.specs.declared.types.Placement.{Placement}
use Rattle.pool_relation.specs.Action.{Object}
use Rattle.pool_relation.specs.Configuration.{Configuration}
use Rattle.pool_relation.specs.Transition.{start}
use Rattle.run_types.specs.Asks.{EachAnswersPost}
use Rattle.mesh_semantics.specs.Record as M
use Rattle.mesh_semantics.specs.Record.{root_name}
use Rattle.mesh_semantics.specs.Wired.{KeepsWires}
use Rattle.mesh_of_terms.specs.Terms.{terms}
use Rattle.mesh_of_terms.specs.RunOf.{IsRunFrom}
use Rattle.pool_machine.specs.SentPackets.{nothing_sent}
use Rattle.placement_reader.specs.Placements.{placement_of}
use Rattle.schedule_reader.specs.Schedules.{Plan, schedule_of}
use Rattle.run_record.specs.Readable.{IsRecord}
use Rattle.run_loop.specs.Shown.{record_over}
use Rattle.pool_driver.specs.Inputs.{unit_of}
use Rattle.command_inputs.specs.Programs.{IsParsed}
use Rattle.code_semantics.specs.declared.file.UnitFile.{UnitFile}
use Rattle.mesh_of_code.specs.Coded.{Placed, coded}
use Rattle.compiler_correctness.specs.CodeRun.{IsCodeRun}
use Rattle.pool_driver.specs.UnitFiles.{IsVerifiedFile}
use Rattle.mesh_semantics.specs.Config.{Config}

-- The meaning of the three texts: a program without class faults with the table of its names, a placement
-- of its classes, and a schedule for the placement's mesh. The schedule says whether the links are wires.
pub record Meaning (source place plan : Text) : Type 0 where
  pub names : List Text
  pub program : ProgramTree
  pub parsed : IsParsed source names program
  pub typed : faults program ≡ []
  pub layout : Placement
  pub placed : placement_of (unit_of names program) place ≡ Ok layout
  pub schedule : Plan
  pub scheduled : schedule_of layout.width layout.height layout.cuts plan ≡ Ok schedule

-- the record of the program on the mesh of the placement, over the schedule
abbrev pub record_of : {source place plan : Text} → Meaning source place plan → M.Record Object
record_of m = record_over (terms m.program) m.layout m.schedule

-- The lines show one run of the transition relation from the start, and their text can be read back.
-- Each line that answers a request has the number, above 0, of a line that posts this request.
-- If the links are wires, each has delivered a prefix of the packets that entered it, in order.
pub record ShowsRun {source place plan : Text} (m : Meaning source place plan) : Type 0 where
  pub first : Configuration
  pub starts : start m.program (root_name m.layout) ≡ Some first
  pub run : IsRunFrom m.program m.layout m.schedule.quantum first (nothing_sent m.schedule.lossy) (record_of m)
  pub readable : IsRecord m.names (record_of m).lines
  pub answers : EachAnswersPost (record_of m).lines
  pub wires : KeepsWires (record_of m).delay

-- the meaning of an object code file with a placement and a schedule: a verified
-- file, a placement of its classes, and a schedule for the placement's mesh
pub record CodeMeaning (source place plan : Text) : Type 0 where
  pub file : UnitFile
  pub is_file : IsVerifiedFile source file
  pub layout : Placement
  pub placed : placement_of file.unit place ≡ Ok layout
  pub schedule : Plan
  pub scheduled : schedule_of layout.width layout.height layout.cuts plan ≡ Ok schedule

-- the record of the code on the mesh of the placement, over the schedule
abbrev pub code_record_of : {source place plan : Text} → CodeMeaning source place plan → M.Record Placed
code_record_of m = record_over (coded m.file.unit) m.layout m.schedule

-- The lines show one run of the relation over objects of code, in which no object goes wrong.
-- Each event line was made where the lines before it lead. Their text can be read back.
-- Each line that answers a request has the number, above 0, of a line that posts this request.
-- If the links are wires, each has delivered a prefix of the packets that entered it, in order. No program is named.
pub record ShowsCodeRun {source place plan : Text} (m : CodeMeaning source place plan) : Type 0 where
  pub first : Config Placed
  pub starts : M.start (coded m.file.unit) m.layout ≡ Some first
  pub run : IsCodeRun m.file m.layout m.schedule.quantum first (nothing_sent m.schedule.lossy) (code_record_of m)
  pub readable : IsRecord m.file.unit.names (code_record_of m).lines
  pub answers : EachAnswersPost (code_record_of m).lines
  pub wires : KeepsWires (code_record_of m).delay
