-- A stack of values as the first values of an array.
use Rattle.std.specs.Prelude.{ℕ, zero, suc, List, [], ◌∷◌, get_or}
use Rattle.run_types.specs.declared.types.Value.{Value}
use Rattle.run_types.specs.declared.types.Value.TheVariants.{Nil}

-- the first n values of an array, the last one first
abbrev pub stack : List Value → ℕ → List Value
stack vs zero = []
stack vs (suc n) = get_or vs n Nil ∷ stack vs n
