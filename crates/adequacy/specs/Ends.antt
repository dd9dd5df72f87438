-- Records that show what a search looks for: a quiet end in a call, a quiet end with something left over, a run-time
-- error, or a dead object.
use Rattle.std.specs.Prelude.{◌≡◌, ℕ, List, [], ◌∷◌, ◌++◌, Some, IsTrue, true}
use Rattle.pool_syntax.specs.Terms.{ProgramTree}
use Rattle.pool_syntax.specs.Typing.{faults}
use Rattle.run_types.specs.declared.types.Error.{Error}
use Rattle.run_types.specs.declared.types.Label.{Label}
use Rattle.run_types.specs.declared.types.Label.TheVariants as L
use Rattle.run_types.specs.declared.types.Placement.{Placement}
use Rattle.pool_relation.specs.Action.{Object}
use Rattle.pool_relation.specs.Configuration.{Configuration}
use Rattle.pool_relation.specs.Transition.{run, start}
use Rattle.pool_syntax.specs.Written.{is_written}
use Rattle.mesh_semantics.specs.FitFor.{FitFor}
use Rattle.mesh_semantics.specs.Record.{Record, labels, root_name, ends_quiet}
use Rattle.mesh_of_terms.specs.Terms.{terms, plain}
use Rattle.reachability.specs.Search.{WaitsAt, HasLeftOver}
use Rattle.search_laws.specs.Dead.{HasDead}

-- a program without faults on a placement that fits it, with its start there
pub record IsPlaced (p : ProgramTree) (l : Placement) : Type 0 where
  pub faultless : faults p ≡ []
  pub written : IsTrue (is_written p)
  pub fits : FitFor (terms p) l
  pub first : Configuration
  pub starts : start p (root_name l) ≡ Some first

-- the record ends quiet, and an object that has met no error is in a call, or is about to make one
pub record EndsInACall (p : ProgramTree) (r : Record Object) : Type 0 where
  pub quiet : ends_quiet r.lines ≡ true
  pub name : ℕ
  pub waits : WaitsAt p (plain r.last) name

-- the record ends quiet, and something is left over: such an object, an object at `answer` or `select`, or a message
-- that was not taken
pub record EndsUnfinished (p : ProgramTree) (r : Record Object) : Type 0 where
  pub quiet : ends_quiet r.lines ≡ true
  pub left : HasLeftOver p (plain r.last)

-- a line of the record shows that an object meets a run-time error
pub record ShowsAnError (r : Record Object) : Type 0 where
  pub front : List Label
  pub rest : List Label
  pub name : ℕ
  pub error : Error
  pub shown : front ++ L.Fault name error ∷ rest ≡ labels r.lines

-- a prefix of the record's labels leads from its start to a configuration with a dead object
pub record ComesToDead (p : ProgramTree) (l : Placement) (r : Record Object) : Type 0 where
  pub first : Configuration
  pub starts : start p (root_name l) ≡ Some first
  pub front : List Label
  pub rest : List Label
  pub shown : front ++ rest ≡ labels r.lines
  pub between : Configuration
  pub leads : run p first front ≡ Some between
  pub dead : HasDead p between
