-- The local transitions of a turn, counted from the first to the last.
use Rattle.std.specs.Prelude.{ℕ, zero, suc, Some, None}
use Rattle.run_types.specs.declared.types.Label.TheVariants as L
use Rattle.run_types.specs.declared.types.Placement.{Placement}
use Rattle.run_types.specs.Partial.{◌>>=◌}
use Rattle.mesh_semantics.specs.Language.{Language}
use Rattle.mesh_semantics.specs.Config.{Config}
use Rattle.mesh_semantics.specs.Moves.{move}
use Rattle.mesh_semantics.specs.Act.{within_frames}

-- one more transition, and the same last configuration
abbrev pub one_more : {S : Type 0} → ℕ × Config S → ℕ × Config S
one_more r = (suc r.0, r.1)

-- The number of local transitions of the object o in a turn of at most that many, and the configuration after them. It
-- makes one if one is possible and the frames of the node n are then within the limit, and continues from there.
-- Otherwise it stops.
abbrev pub going_on : {S : Type 0} → Language S → Placement → (n o : ℕ) → ℕ → Config S → ℕ × Config S
going_on g l n o zero c = (0, c)
going_on {S} g l n o (suc q) c = elim (move g c (L.Local o) >>= within_frames g l n) as (λ e. ℕ × Config S) [
  | None ↦ (0, c)
  | Some e ↦ one_more (going_on g l n o q e)
]
