-- Tests of equality for lists of values and for written items, and the number of each run-time error.
use Rattle.std.specs.Prelude.{ℕ, ◌==◌, List, [], ◌∷◌, Bool, true, false, ◌&&◌}
use Rattle.run_types.specs.declared.types.Value.{Value}
use Rattle.run_types.specs.declared.types.Item.{Item}
use Rattle.run_types.specs.declared.types.Item.TheVariants as I
use Rattle.run_types.specs.declared.types.Error.{Error}
use Rattle.run_types.specs.declared.types.Error.TheVariants as E
use Rattle.run_types.specs.Values.{is_same}

-- whether two lists of values are equal
abbrev pub are_same : List Value → List Value → Bool
are_same [] [] = true
are_same (v ∷ vs) (w ∷ ws) = is_same v w && are_same vs ws
are_same _ _ = false

-- whether two written items are equal
abbrev pub is_same_item : Item → Item → Bool
is_same_item (I.Value v) (I.Value w) = is_same v w
is_same_item (I.Text s) (I.Text t) = s.0 == t.0
is_same_item _ _ = false

-- the index of a run-time error in the order of their declaration
abbrev pub error_number : Error → ℕ
error_number E.NilDestination = 0
error_number E.NilOperand = 1
error_number E.Overflow = 2
error_number E.ZeroDivisor = 3
error_number E.NoOpenGuard = 4
