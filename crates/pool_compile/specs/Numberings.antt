-- The numbering that the compiler's two lists of names represent.
use Rattle.pool_compile.specs.declared.scope.Numbers.{Numbers}
use Rattle.pool_compile.specs.Code.{Numbering}

abbrev pub numbering : Numbers → Numbering
numbering n = record { temps = n.temps.now; vars = n.vars.now }
