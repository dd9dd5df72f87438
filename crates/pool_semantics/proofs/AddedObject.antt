-- The objects after one is added.
use Rattle.std.proofs.Common.{◌≡◌, refl, ap, sym, ◌∙◌, ℕ, List, Option, Some, None, is_some, true, false}
use Rattle.std.specs.Ordering.{nat_cmp}
use Rattle.std.specs.FinMap.{put}
use Rattle.std.specs.BTreeMap.{BTreeMap, get, insert_entry}
use Rattle.pool_relation.specs.Action.{Object}
use Rattle.stepper_objects.specs.declared.object_state.ObjectState.{ObjectState}
use Rattle.stepper_objects.specs.ObjectStates.{thing_object, things}
use Rattle.pool_semantics.proofs.MapAbstraction.{things_insert}

-- a new entry of the map is a new object of the configuration
pub things_added : (ns es : List (ℕ × ObjectState)) (k : ℕ) (t : ObjectState) (x : Object) → ns ≡ insert_entry nat_cmp es k t → thing_object t ≡ x → things ns ≡ put nat_cmp k x (things es)
things_added ns es k t x e m = ap things e ∙ (things_insert k t es ∙ ap (λ y. put nat_cmp k y (things es)) m)

-- what is not there is None
pub none_there : (r : Option ObjectState) → is_some r ≡ false → r ≡ None
none_there None h = refl
none_there (Some t) h = absurd (cc)

-- a name that no object has is not the name of an object
pub apart_from : (m : BTreeMap ℕ ObjectState) (n o : ℕ) (t : ObjectState) → is_some (get nat_cmp m n) ≡ false → get nat_cmp m o ≡ Some t → n ≡ o → ⊥
apart_from m n o t h f e =
    let z : true ≡ false = sym (ap is_some f) ∙ (ap (λ q. is_some (get nat_cmp m q)) (sym e) ∙ h) in cc
