-- The facts about a placement that the proofs use; a placement that fits a program has them.
use Rattle.std.specs.Prelude.{◌≡◌, ℕ, ◌*◌, ◌<◌, Some, slice_get}
use Rattle.run_types.specs.declared.types.Place.TheVariants as Pl
use Rattle.run_types.specs.declared.types.Placement.{Placement}
use Rattle.run_types.specs.PathFacts.{Ways}

pub record Fit (l : Placement) : Type 0 where
  pub ways : Ways l
  pub objects : l.objects < 65536
  pub nodes : 0 < l.width * l.height
  -- a class is placed at a node
  pub places : (i k : ℕ) → slice_get l.places i ≡ Some (Pl.At k) → k < l.width * l.height
