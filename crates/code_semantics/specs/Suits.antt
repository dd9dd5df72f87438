-- Placements that suit a unit: numbers in their ranges, a place for each class, a limited memory, and a path between each two nodes.
use Rattle.std.specs.Prelude.{◌≡◌, ℕ, ◌≤◌, ◌<◌, length}
use Rattle.std.specs.List.{All}
use Rattle.run_types.specs.declared.types.Place.{Place}
use Rattle.run_types.specs.declared.types.Place.TheVariants as P
use Rattle.run_types.specs.declared.types.Placement.{Placement}
use Rattle.run_types.specs.PathFacts.{Ways}
use Rattle.run_types.specs.RoutedPlacements.{IsRouted}
use Rattle.code_semantics.specs.declared.unit.Unit.{Unit as Code}
use Rattle.code_semantics.specs.NodeWords.{nodes, most_vars, words}

abbrev pub IsFromTo : ℕ → ℕ → ℕ → Type 0
IsFromTo low high n = (low ≤ n) × (n ≤ high)

-- if a place names a node, the mesh has that node
abbrev pub IsOfMesh : ℕ → Place → Type 0
IsOfMesh nodes (P.At n) = n < nodes
IsOfMesh nodes _ = Unit {0}

-- numbers within their ranges, a place for each class, at most 16,777,216 words, cuts and routes of the mesh, and a path between each two nodes
pub record Suits (l : Placement) (u : Code) : Type 0 where
  pub width : IsFromTo 1 8 l.width
  pub height : IsFromTo 1 8 l.height
  pub objects : IsFromTo 1 4096 l.objects
  pub frames : IsFromTo 1 16384 l.frames
  pub cells : IsFromTo 1 16384 l.cells
  pub places : length l.places ≡ length u.classes
  pub each : All (IsOfMesh (nodes l)) l.places
  pub fits : words l (most_vars u.classes) ≤ 16777216
  pub routed : IsRouted l
  pub ways : Ways l
