-- The record of a verified file as one run of the transition relation over its objects, in which no object goes wrong.
use Rattle.std.specs.Prelude.{◌≡◌, ℕ, List, ◌++◌, Some, None, true}
use Rattle.run_types.specs.declared.types.Label.{Label}
use Rattle.run_types.specs.declared.types.Placement.{Placement}
use Rattle.code_semantics.specs.declared.file.UnitFile.{UnitFile}
use Rattle.mesh_semantics.specs.Config.{Config, object_of}
use Rattle.mesh_semantics.specs.Delay.{Delay}
use Rattle.mesh_semantics.specs.MadeLines.{AreMade, LabelsLead}
use Rattle.mesh_semantics.specs.Moves.{move, moves}
use Rattle.mesh_semantics.specs.Record.{Record, EndsOnce, labels, ends_quiet}
use Rattle.mesh_semantics.specs.Sound.{IsSound}
use Rattle.mesh_of_code.specs.Coded.{Placed, coded}
use Rattle.compiler_correctness.specs.TypedCode.{IsTypedCode, GoesWrong}

-- a typed configuration in which no object goes wrong
pub record IsRightCode (f : UnitFile) (c : Config Placed) : Type 0 where
  pub typed : IsTypedCode f c
  pub nobody : (o : ℕ) (x : Placed) → object_of c o ≡ Some x → ¬ (GoesWrong f c o x)

-- the labels of `front` lead from c to a right configuration, and those of `rest` lead from there to z
pub record GoesBy (f : UnitFile) (c z : Config Placed) (front rest : List Label) : Type 0 where
  pub between : Config Placed
  pub to : moves (coded f.unit) c front ≡ Some between
  pub from : moves (coded f.unit) between rest ≡ Some z
  pub right : IsRightCode f between

-- A record of a run from c with its delay d, with turns of at most q local transitions. It has event lines and then
-- one end line. Its labels are a run of the relation over code to its last configuration, which is sound with its
-- delay. The configuration after each prefix of the labels is right. Each event line was made where the lines before it
-- lead. If the record ends quiet, no label is possible there.
pub record IsCodeRun (f : UnitFile) (l : Placement) (q : ℕ) (c : Config Placed) (d : Delay) (r : Record Placed) : Type 0 where
  pub lines : EndsOnce r.lines
  pub leads : moves (coded f.unit) c (labels r.lines) ≡ Some r.last
  pub sound : IsSound (coded f.unit) (IsTypedCode f) l r.last r.delay
  pub fronts : (front rest : List Label) → front ++ rest ≡ labels r.lines → GoesBy f c r.last front rest
  pub made : AreMade (coded f.unit) (IsTypedCode f) l q (LabelsLead (coded f.unit) c) c d r.lines
  pub rests : ends_quiet r.lines ≡ true → (lab : Label) → move (coded f.unit) r.last lab ≡ None
