-- A table lists a text exactly if the look-up finds it.
use Rattle.std.proofs.Common.{◌≡◌, true, false, ◌||◌, List, [], ◌∷◌, Some, is_some, bytes_eq, refl}
use Rattle.text_scan.specs.Text.{Text, is_listed, lookup}

-- a table has a text where the look-up finds it
pub listed_is : {A : Type 0} (rows : List (Text × A)) (w : Text) → is_listed rows w ≡ is_some (lookup rows w)
listed_is [] w = refl
listed_is ((x, meaning) ∷ rows) w = elim (bytes_eq x w) as (λ k. (k || is_listed rows w) ≡ is_some (elim k [ true ↦ Some meaning | false ↦ lookup rows w ])) [ true ↦ refl | false ↦ listed_is rows w ]
