-- The correspondence between an object of a program and an object of code that represents it.
use Rattle.std.specs.Prelude.{◌≡◌, ℕ}
use Rattle.pool_syntax.specs.Terms.{ProgramTree}
use Rattle.pool_relation.specs.Action.{Object, action}
use Rattle.code_semantics.specs.declared.unit.Unit.{Unit as Code}
use Rattle.code_semantics.specs.Kinds.{code_kind}
use Rattle.pool_compile.specs.Follows.{Represents}
use Rattle.mesh_of_terms.specs.Terms as T
use Rattle.mesh_of_code.specs.Coded.{Placed, kind_of, unless_served}

-- The code represents the object, has met the same error, and has the same next action. So its call is being served if and only if the object waits.
pub record Matches (p : ProgramTree) (u : Code) (o : ℕ) (x : Object) (y : Placed) : Type 0 where
  pub stands : Represents p u x y.object
  pub fault : x.fault ≡ y.fault
  pub kind : T.kind_of (action p o x) ≡ unless_served y.served (kind_of (code_kind u y.object))
