-- The object of a slot after another was put there.
use Rattle.std.proofs.Common.{◌≡◌, refl, ap, ◌∙◌, ℕ, zero, suc, ◌<◌, List, [], ◌∷◌, length, set, get_or-set_same, length-set, arith}
use Rattle.std.proofs.lemmas.List.{set-get_or}
use Rattle.run_types.specs.declared.frames.CodeObject.{CodeObject}
use Rattle.node_heap.specs.Heaps.{HeapOf, object_at, put_object, no_object}

set_twice : {X : Type 0} (l : List X) (i : ℕ) (x y : X) → set (set l i x) i y ≡ set l i y
set_twice [] i x y = refl
set_twice (z ∷ l) zero x y = refl
set_twice (z ∷ l) (suc i) x y = ap (λ m. z ∷ m) (set_twice l i x y)

pub objects_kept : (h : HeapOf) (slot : ℕ) (x : CodeObject) → length (put_object h slot x).objects ≡ length h.objects
objects_kept h slot x = length-set h.objects slot x

pub object_put : (h : HeapOf) (slot : ℕ) (x : CodeObject) → slot < length h.objects → object_at (put_object h slot x) slot ≡ x
object_put h slot x within = get_or-set_same h.objects slot x no_object within

pub put_put : (h : HeapOf) (slot : ℕ) (x y : CodeObject) → put_object (put_object h slot x) slot y ≡ put_object h slot y
put_put h slot x y = ap (λ objects. record h { objects = objects }) (set_twice h.objects slot x y)

pub put_same : (h : HeapOf) (slot : ℕ) → put_object h slot (object_at h slot) ≡ h
put_same h slot = ap (λ objects. record h { objects = objects }) (set-get_or h.objects slot no_object)

-- a slot that is there stays
pub still_there : (h a : HeapOf) (slot : ℕ) (x : CodeObject) → slot < length h.objects → a ≡ put_object h slot x → slot < length a.objects
still_there h a slot x within e = omega (arith, within, ap (λ b. length b.objects) e, objects_kept h slot x)

-- what stands there then
pub object_then : (h a : HeapOf) (slot : ℕ) (x : CodeObject) → slot < length h.objects → a ≡ put_object h slot x → object_at a slot ≡ x
object_then h a slot x within e = ap (λ b. object_at b slot) e ∙ object_put h slot x within

-- one change of the slot's object after another
pub put_then : (h a b : HeapOf) (slot : ℕ) (x : CodeObject) (go : CodeObject → CodeObject) → slot < length h.objects → a ≡ put_object h slot x
    → b ≡ put_object a slot (go (object_at a slot)) → b ≡ put_object h slot (go x)
put_then h a b slot x go within e after =
    after ∙ ap (λ y. put_object a slot (go y)) (object_then h a slot x within e) ∙ ap (λ c. put_object c slot (go x)) e ∙ put_put h slot x (go x)
