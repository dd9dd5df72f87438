-- Alternatives by their numbers, and the first one that accepts a call.
use Rattle.std.proofs.Common.{◌≡◌, refl, ℕ, zero, suc, ◌-◌, ◌<◌, ◌≤◌, List, [], ◌∷◌, length, slice_get, slice_index_or, Some, None, arith}
use Rattle.pool_relation.specs.Action as A
use Rattle.pool_relation.specs.Transition.{picked, plain_choice}
use Rattle.stepper_terms.specs.declared.contexts.Guarded.{Guarded}
use Rattle.stepper_terms.specs.Reduced.{choice, choices}

got_past : (gs : List Guarded) (i : ℕ) → length gs ≤ i → slice_get (choices gs) i ≡ None
got_past [] i h = refl
got_past (g ∷ gs) zero h = absurd (omega arith)
got_past (g ∷ gs) (suc i) h = got_past gs i (omega arith)

got_at : (gs : List Guarded) (i : ℕ) (d : Guarded) → i < length gs → slice_get (choices gs) i ≡ Some (choice (slice_index_or gs i d))
got_at [] i d h = absurd (omega arith)
got_at (k ∷ gs) zero d h = refl
got_at (k ∷ gs) (suc i) d h = got_at gs i d (omega arith)

pub picked_past : (gs : List Guarded) (n : ℕ) → (n ≡ 0 → ⊥) → length gs ≤ n - 1 → picked (A.Select (choices gs)) n ≡ None
picked_past gs zero z h = absurd (z refl)
picked_past gs (suc i) z h = let k = got_past gs i (omega arith) in rw k refl

pub picked_at : (gs : List Guarded) (n : ℕ) (d : Guarded) → (n ≡ 0 → ⊥) → n - 1 < length gs → picked (A.Select (choices gs)) n ≡ plain_choice (Some (choice (slice_index_or gs (n - 1) d)))
picked_at gs zero d z h = absurd (z refl)
picked_at gs (suc i) d z h = let e : suc i - 1 ≡ i = omega arith in let k = got_at gs i d (omega arith) in rw (e, k) refl
