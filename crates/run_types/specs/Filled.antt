-- The eight places that hold an argument list, with nil in each unused one.
use Rattle.std.specs.Prelude.{List, length, ◌++◌, ◌-◌, replicate}
use Rattle.run_types.specs.declared.types.Value.{Value}
use Rattle.run_types.specs.declared.types.Value.TheVariants.{Nil}

-- an argument list in its eight places
abbrev pub filled : List Value → List Value
filled d = d ++ replicate (8 - length d) Nil
