-- Placements that fit a program in any language of objects.
use Rattle.std.specs.Prelude.{◌≡◌, ℕ, ◌*◌, ◌<◌, ◌≤◌, length, Some, slice_get}
use Rattle.run_types.specs.declared.types.Place.TheVariants as Pl
use Rattle.run_types.specs.declared.types.Placement.{Placement}
use Rattle.mesh_semantics.specs.Language.{Language}
use Rattle.run_types.specs.PathFacts.{Ways}

pub record FitFor {S : Type 0} (g : Language S) (l : Placement) : Type 0 where
  -- each pair of nodes has a path
  pub ways : Ways l
  -- the mesh has a node
  pub nodes : 0 < l.width * l.height
  -- a node can have an object, and the slots of its objects have 16 bits
  pub objects : (1 ≤ l.objects) × (l.objects < 65536)
  pub frames : 1 ≤ l.frames
  -- there is one place for each class; if it is a node, the node is one of the mesh
  pub count : length l.places ≡ length g.classes
  pub places : (i k : ℕ) → slice_get l.places i ≡ Some (Pl.At k) → k < l.width * l.height
