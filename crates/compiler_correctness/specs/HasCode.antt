-- The configuration of code that corresponds to a configuration of terms.
use Rattle.pool_syntax.specs.Terms.{ProgramTree}
use Rattle.run_types.specs.declared.types.Placement.{Placement}
use Rattle.pool_relation.specs.Action.{Object}
use Rattle.code_semantics.specs.declared.unit.Unit.{Unit as Code}
use Rattle.mesh_semantics.specs.Config.{Config}
use Rattle.mesh_semantics.specs.Delay.{Delay}
use Rattle.mesh_semantics.specs.Simulates.{Related}
use Rattle.mesh_semantics.specs.Sound.{IsSound}
use Rattle.mesh_of_terms.specs.Terms.{terms}
use Rattle.mesh_of_terms.specs.TypedTerms.{TypedTerms}
use Rattle.mesh_of_code.specs.Coded.{Placed, coded}
use Rattle.mesh_of_code.specs.CodeInvariant.{IsOfCode}
use Rattle.compiler_correctness.specs.Matches.{Matches}

-- a configuration of code that is of the unit and corresponds to c, and that is sound with each delay with which c is sound
pub record HasCode (p : ProgramTree) (u : Code) (l : Placement) (c : Config Object) : Type 0 where
  pub config : Config Placed
  pub of_code : IsOfCode u config
  pub corresponds : Related (Matches p u) c config
  pub sound : (d : Delay) → IsSound (terms p) (TypedTerms p) l c d → IsSound (coded u) (IsOfCode u) l config d
