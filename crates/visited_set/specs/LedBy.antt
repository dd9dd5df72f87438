-- The configuration that a label leads to.
use Rattle.std.specs.Prelude.{◌≡◌, ℕ, List, ◌∷◌, Some}
use Rattle.run_types.specs.declared.types.Label.{Label}
use Rattle.pool_syntax.specs.Terms.{ProgramTree}
use Rattle.pool_relation.specs.Configuration.{Configuration}
use Rattle.pool_relation.specs.Transition.{transition}
use Rattle.search_laws.specs.Tried.{Course, Follows}
use Rattle.object_moves.specs.Followed.{AreChanged, passes}

-- the label is possible in c, and leads to this configuration after some transitions that are followed; these objects are
-- changed on the way
pub record IsLedBy (p : ProgramTree) (k : Course) (c : Configuration) (l : Label) (to : Configuration) (moved : List ℕ) : Type 0 where
  pub next : Configuration
  pub step : transition p c l ≡ Some next
  pub follows : Follows p k next to
  pub changed : AreChanged (l ∷ passes follows) moved
