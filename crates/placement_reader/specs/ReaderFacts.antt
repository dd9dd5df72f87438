-- The facts of the functions of the reader: forms without fault, the mesh line, and the reported fault.
use Rattle.std.specs.Prelude.{ℕ, ◌<◌, List, [], ◌∷◌, ◌≡◌, Option, Some, None}
use Rattle.code_semantics.specs.Suits.{IsFromTo, IsOfMesh}
use Rattle.placement_reader.specs.declared.form.Form.{Form}
use Rattle.placement_reader.specs.declared.form.Form.TheVariants as form
use Rattle.placement_reader.specs.Forms.{most, place_of}
use Rattle.placement_reader.specs.declared.fault.PlacementFault.{PlacementFault}
use Rattle.placement_reader.specs.declared.fault.PlacementFault.TheVariants as F
use Rattle.placement_reader.specs.declared.read.Mesh.{Mesh}
use Rattle.placement_reader.specs.Placements.{mesh_fault}

-- the facts of a form without fault: its number is in its range, or its nodes are in the mesh
abbrev pub IsWellFormed : ℕ → Form → Type 0
IsWellFormed nodes (form.Mesh w h) = Unit {0}
IsWellFormed nodes (form.Counted k n) = IsFromTo 1 (most k) n
IsWellFormed nodes (form.Placed c s) = IsOfMesh nodes (place_of s)
IsWellFormed nodes (form.Cut a b) = (a < nodes) × (b < nodes)
IsWellFormed nodes (form.Routed a g b) = (a < nodes) × (g < nodes) × (b < nodes)

abbrev pub AreWellFormed : ℕ → List Form → Type 0
AreWellFormed nodes [] = Unit {0}
AreWellFormed nodes (f ∷ fs) = IsWellFormed nodes f × AreWellFormed nodes fs

-- The first line is this mesh line.
pub record IsMeshLine (line : ℕ) (f : Option Form) (m : Mesh) : Type 0 where
  pub form_is : f ≡ Some (form.Mesh m.width m.height)
  pub faultless : mesh_fault line f ≡ None
  pub width : IsFromTo 1 8 m.width
  pub height : IsFromTo 1 8 m.height

-- The fault is the reported one; of `Memory` nothing is said.
abbrev pub ReportsFault : PlacementFault → Option PlacementFault → Type 0
ReportsFault (F.BadLine line) told = told ≡ Some (F.BadLine line)
ReportsFault (F.UnknownClass line) told = told ≡ Some (F.UnknownClass line)
ReportsFault (F.Repeated line) told = told ≡ Some (F.Repeated line)
ReportsFault (F.NoSuchNode line) told = told ≡ Some (F.NoSuchNode line)
ReportsFault (F.OutOfRange line) told = told ≡ Some (F.OutOfRange line)
ReportsFault (F.TooLarge count) told = told ≡ Some (F.TooLarge count)
ReportsFault F.Memory told = Unit {0}
ReportsFault (F.NoSuchLink line) told = told ≡ Some (F.NoSuchLink line)
ReportsFault (F.NoRoute from to) told = told ≡ Some (F.NoRoute from to)
