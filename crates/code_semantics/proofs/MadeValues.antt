-- The integers that the code of a class can make, and a property of the items that are written.
use Rattle.std.specs.Prelude.{ℤ, ◌⊎◌}
use Rattle.run_types.specs.declared.types.Value.{Value}
use Rattle.run_types.specs.declared.types.Item.{Item}
use Rattle.run_types.specs.declared.types.Item.TheVariants as It
use Rattle.code_semantics.specs.declared.unit.ClassCode.{ClassCode}
use Rattle.code_semantics.specs.MadeNumbers.{IsInRange, IsPushed}

-- a number that code of the class makes
abbrev pub IsMadeBy : ClassCode → ℤ → Type 0
IsMadeBy k z = IsInRange z ⊎ IsPushed k z

-- a property of the value that is written, if it is no string
abbrev pub HoldsOfItem : (Value → Type 0) → Item → Type 0
HoldsOfItem P (It.Value v) = P v
HoldsOfItem P (It.Text s) = Unit {0}
