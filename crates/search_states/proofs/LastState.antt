-- The state that was added last has the last number.
use Rattle.std.proofs.Common.{◌≡◌, refl, ap, ◌∙◌, ℕ, List, [], ◌∷◌, ◌++◌, map, length, Some}
use Rattle.std.specs.List.{slice_get}
use Rattle.pool_relation.specs.Action.{Object}
use Rattle.stepper_objects.specs.declared.object_state.ObjectState.{ObjectState}
use Rattle.stepper_objects.specs.ObjectStates.{thing_object}

last : (xs : List ObjectState) (y : ObjectState) → slice_get (map thing_object (xs ++ y ∷ [])) (length xs) ≡ Some (thing_object y)
last [] y = refl
last (x ∷ xs) y = last xs y

pub added_last : (xs ys : List ObjectState) (y : ObjectState) (n : ℕ) (x : Object) → ys ≡ xs ++ y ∷ [] → n ≡ length xs → thing_object y ≡ x → slice_get (map thing_object ys) n ≡ Some x
added_last xs ys y n x e f g = rw (e, f) (last xs y ∙ ap Some g)
