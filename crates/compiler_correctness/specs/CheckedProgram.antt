-- Programs as the parser gives them that have no class faults.
use Rattle.std.specs.Prelude.{◌≡◌, [], true, IsTrue}
use Rattle.pool_syntax.specs.Terms.{ProgramTree}
use Rattle.pool_syntax.specs.Typing.{faults}
use Rattle.pool_syntax.specs.Written.{is_written}
use Rattle.pool_compile.specs.TextPrograms.{is_text_program}

-- a program as the parser gives it, without class faults
pub record IsCheckedProgram (p : ProgramTree) : Type 0 where
  pub faultless : faults p ≡ []
  pub written : IsTrue (is_written p)
  pub text : is_text_program p ≡ true
