-- The positions of classes in their list.
use Rattle.std.proofs.Common.{◌≡◌, ◌⊎◌, inl, inr, refl, sym, ap, ◌∙◌, ℕ, zero, suc, List, [], ◌∷◌, length, replicate, Some, Bool, true, false}
use Rattle.std.specs.Prelude.{slice_get, ◌==◌}
use Rattle.std.specs.Option.{unwrap_or}
use Rattle.run_types.proofs.Laws.{same_some, equal, equals}
use Rattle.run_types.specs.PathFacts.{In}
use Rattle.mesh_semantics.specs.Act.{class_place}

later : (x k : ℕ) (ks : List ℕ) → (x == k) ≡ false → (x ≡ k) ⊎ In k ks → In k ks
later x k ks z (inl e) = absurd (let t : (x == k) ≡ true = rw e (equals k) in cc)
later x k ks z (inr h) = h

-- a class is at its place
pub class_at : (ks : List ℕ) (k : ℕ) → In k ks → slice_get ks (class_place ks k) ≡ Some k
class_at [] k h = absurd h
class_at (x ∷ ks) k h = by (λ i. class_at ks k i) (x == k) refl
  where
    by : (In k ks → slice_get ks (class_place ks k) ≡ Some k) → (b : Bool) → (x == k) ≡ b → slice_get (x ∷ ks) (class_place (x ∷ ks) k) ≡ Some k
    by f true z = rw z (ap Some (equal x k z))
    by f false z = rw z (f (later x k ks z h))

-- two classes have two places
pub same_place : (ks : List ℕ) (j k : ℕ) → In j ks → In k ks → class_place ks j ≡ class_place ks k → j ≡ k
same_place ks j k a b e = same_some (sym (class_at ks j a) ∙ ap (slice_get ks) e ∙ class_at ks k b)

-- a list that is as long has something there
pub as_long : {X Y : Type 0} (xs : List X) (ys : List Y) (i : ℕ) (x : X) → length xs ≡ length ys → slice_get xs i ≡ Some x → (y : Y) × (slice_get ys i ≡ Some y)
as_long [] ys i x e h = absurd (cc)
as_long (z ∷ xs) [] i x e h = absurd (cc)
as_long (z ∷ xs) (y ∷ ys) zero x e h = (y, refl)
as_long (z ∷ xs) (y ∷ ys) (suc i) x e h = as_long xs ys i x (cc) h

-- counts at the start
pub zeros : (n i : ℕ) → unwrap_or (slice_get (replicate n zero) i) zero ≡ zero
zeros zero i = refl
zeros (suc n) zero = refl
zeros (suc n) (suc i) = zeros n i
