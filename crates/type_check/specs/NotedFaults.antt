-- The way in which the checker finds the least fault: it notes one fault after another, and keeps the least.
use Rattle.std.specs.Prelude.{◌==◌, ◌&&◌, ◌||◌, nat_lt, Bool, List, [], ◌∷◌, Option, Some, None, if◌then◌else◌, option_map, ◌≡◌}
use Rattle.pool_syntax.specs.Typing.{FaultAt}
use Rattle.type_check.specs.declared.fault.ClassFault.{ClassFault}
use Rattle.type_check.specs.PairOf.{pair_of}

-- whether the first is below the second
abbrev pub is_below : FaultAt → FaultAt → Bool
is_below x y = nat_lt x.0 y.0 || (x.0 == y.0 && nat_lt x.1 y.1)

-- the lower of the fault that was kept, if there is one, and another
abbrev pub lower : Option FaultAt → FaultAt → FaultAt
lower None y = y
lower (Some x) y = if is_below y x then y else x

-- the fault that is kept after these faults were noted in turn
abbrev pub noted : Option FaultAt → List FaultAt → Option FaultAt
noted first [] = first
noted first (x ∷ xs) = noted (Some (lower first x)) xs

-- the token and the number of a fault, if there is one
abbrev pub found_of : Option ClassFault → Option FaultAt
found_of first = option_map pair_of first

-- the faults kept before and after these faults were noted
abbrev pub Notes : Option ClassFault → Option ClassFault → List FaultAt → Type 0
Notes before after fs = found_of after ≡ noted (found_of before) fs
