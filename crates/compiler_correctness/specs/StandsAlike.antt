-- An object and its code have the same class and the same status.
use Rattle.std.specs.Prelude.{◌≡◌, ℕ}
use Rattle.pool_syntax.specs.Terms.{ProgramTree}
use Rattle.pool_relation.specs.Action.{Object}
use Rattle.code_semantics.specs.declared.unit.Unit.{Unit as Code}
use Rattle.mesh_semantics.specs.Delay.{Delay}
use Rattle.mesh_semantics.specs.Standing.{standing}
use Rattle.mesh_of_terms.specs.Terms.{terms}
use Rattle.mesh_of_code.specs.Coded.{Placed, coded}

-- the object o and its code have the same class and the same status
abbrev pub StandsAlike : ProgramTree → Code → Delay → ℕ → Object → Placed → Type 0
StandsAlike p u d o x y = ((terms p).class x ≡ (coded u).class y) × (standing (terms p) d o x ≡ standing (coded u) d o y)
