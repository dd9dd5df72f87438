-- The invariant of a `Plain`: its program is checked, and its configuration is typed.
use Rattle.std.specs.Prelude.{◌≡◌, [], IsTrue}
use Rattle.pool_syntax.specs.Terms.{ProgramTree}
use Rattle.pool_syntax.specs.Typing.{faults}
use Rattle.pool_relation.specs.Configuration.{Configuration}
use Rattle.pool_syntax.specs.Written.{is_written}
use Rattle.pool_relation.specs.Typed.{Typed}

-- the program has no class faults and is that of a text, and the configuration is typed
pub record Sound (p : ProgramTree) (c : Configuration) : Type 0 where
  pub faultless : faults p ≡ []
  pub written : IsTrue (is_written p)
  pub typed : Typed p c
