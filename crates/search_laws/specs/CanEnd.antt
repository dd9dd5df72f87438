-- Configurations from which some run comes to an end.
use Rattle.std.specs.Prelude.{◌≡◌, List, Some}
use Rattle.run_types.specs.declared.types.Label.{Label}
use Rattle.pool_syntax.specs.Terms.{ProgramTree}
use Rattle.pool_relation.specs.Configuration.{Configuration}
use Rattle.pool_relation.specs.Transition.{run}
use Rattle.reachability.specs.Search.{IsAtEnd}

-- some run from here leads to where no label is possible
pub record CanEnd (p : ProgramTree) (c : Configuration) : Type 0 where
  pub last : Configuration
  pub labels : List Label
  pub leads : run p c labels ≡ Some last
  pub ended : IsAtEnd p last
