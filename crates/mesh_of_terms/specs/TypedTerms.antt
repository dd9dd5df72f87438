-- The kept property of configurations of terms: they are typed.
use Rattle.pool_syntax.specs.Terms.{ProgramTree}
use Rattle.pool_relation.specs.Action.{Object}
use Rattle.pool_relation.specs.Typed.{Typed}
use Rattle.mesh_semantics.specs.Config.{Config}
use Rattle.mesh_of_terms.specs.Terms.{plain}

-- the configuration of terms is typed
abbrev pub TypedTerms : ProgramTree → Config Object → Type 0
TypedTerms p c = Typed p (plain c)
