-- The number of the fault of a name that is declared twice.
use Rattle.std.specs.Prelude.{ℕ}
use Rattle.pool_syntax.specs.FaultNumbers as N
use Rattle.declaration_check.specs.declared.declarations.Owner.{Owner}
use Rattle.declaration_check.specs.declared.declarations.Owner.TheVariants as W

-- the number of the fault of a name that is declared twice
abbrev pub twice_number : Owner → ℕ
twice_number W.Class = N.variable_twice
twice_number W.Method = N.local_twice
