-- Lists of faults that are noted one after another.
use Rattle.std.proofs.Common.{◌≡◌, refl, List, [], ◌∷◌, ◌++◌, Option, Some}
use Rattle.pool_syntax.specs.Typing.{FaultAt}
use Rattle.type_check.specs.NotedFaults.{noted, lower}

pub noted_append : (first : Option FaultAt) (xs ys : List FaultAt) → noted first (xs ++ ys) ≡ noted (noted first xs) ys
noted_append first [] ys = refl
noted_append first (x ∷ xs) ys = noted_append (Some (lower first x)) xs ys
