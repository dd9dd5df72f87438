-- The maps of the code represent those of the definitions.
use Rattle.std.proofs.Common.{◌≡◌, refl, ap, sym, ◌∙◌, ℕ, List, [], ◌∷◌, Some, arith}
use Rattle.std.specs.Ordering.{nat_cmp}
use Rattle.std.specs.declared.cmp.Ordering.{Ordering}
use Rattle.std.specs.declared.cmp.Ordering.TheVariants.{Less, Equal, Greater}
use Rattle.std.specs.Cmp.{nat_cmp_total}
use Rattle.std.specs.FinMap.{find, put, nat_cmp-IsAntisymmetric}
use Rattle.std.specs.Map.{lookup, set_value, keys_of}
use Rattle.std.specs.BTreeMap.{is_at, insert_entry}
use Rattle.std.specs.List.Sorted.{IsStrictlySortedBy}
use Rattle.std.specs.Option.{option_map}
use Rattle.std.proofs.lemmas.Map.{lookup-none}
use Rattle.std.proofs.lemmas.Map.Entries.{none_below_head}
use Rattle.stepper_objects.specs.declared.object_state.ObjectState.{ObjectState}
use Rattle.stepper_objects.specs.ObjectStates.{thing_object, things}

pub things_lookup : (k : ℕ) (es : List (ℕ × ObjectState)) → find nat_cmp k (things es) ≡ option_map thing_object (lookup (is_at (nat_cmp k)) es)
things_lookup k [] = refl
things_lookup k (e ∷ es) = by (nat_cmp k e.0) refl (things_lookup k es)
  where
    by : (r : Ordering) → nat_cmp k e.0 ≡ r → find nat_cmp k (things es) ≡ option_map thing_object (lookup (is_at (nat_cmp k)) es) → find nat_cmp k (things (e ∷ es)) ≡ option_map thing_object (lookup (is_at (nat_cmp k)) (e ∷ es))
    by Less h i = rw h i
    by Equal h i = rw h refl
    by Greater h i = rw h i

pub things_insert : (k : ℕ) (t : ObjectState) (es : List (ℕ × ObjectState)) → things (insert_entry nat_cmp es k t) ≡ put nat_cmp k (thing_object t) (things es)
things_insert k t [] = refl
things_insert k t (e ∷ es) = by (nat_cmp k e.0) refl (things_insert k t es)
  where
    by : (r : Ordering) → nat_cmp k e.0 ≡ r → things (insert_entry nat_cmp es k t) ≡ put nat_cmp k (thing_object t) (things es) → things (insert_entry nat_cmp (e ∷ es) k t) ≡ put nat_cmp k (thing_object t) (things (e ∷ es))
    by Less h i = rw h refl
    by Equal h i = rw h refl
    by Greater h i = rw h (ap (λ l. (e.0, thing_object e.1) ∷ l) i)

sorted_rest : (e : ℕ × ObjectState) (es : List (ℕ × ObjectState)) → IsStrictlySortedBy nat_cmp (keys_of (e ∷ es)) → IsStrictlySortedBy nat_cmp (keys_of es)
unfolding IsStrictlySortedBy
sorted_rest e es s = s.1

pub things_set : (k : ℕ) (t u : ObjectState) (es : List (ℕ × ObjectState)) → IsStrictlySortedBy nat_cmp (keys_of es) → lookup (is_at (nat_cmp k)) es ≡ Some t
    → things (set_value (is_at (nat_cmp k)) es u) ≡ put nat_cmp k (thing_object u) (things es)
things_set k t u [] s h = absurd (grind arith)
things_set k t u (e ∷ es) s h = by (nat_cmp k e.0) refl (things_set k t u es (sorted_rest e es s))
  where
    by : (r : Ordering) → nat_cmp k e.0 ≡ r → (lookup (is_at (nat_cmp k)) es ≡ Some t → things (set_value (is_at (nat_cmp k)) es u) ≡ put nat_cmp k (thing_object u) (things es)) → things (set_value (is_at (nat_cmp k)) (e ∷ es) u) ≡ put nat_cmp k (thing_object u) (things (e ∷ es))
    by Less j i = let n = lookup-none (is_at (nat_cmp k)) (e ∷ es) (none_below_head nat_cmp_total k e es s j) in absurd (grind (arith, n))
    by Equal j i = rw j refl
    by Greater j i = rw j (ap (λ l. (e.0, thing_object e.1) ∷ l) (i (rw j at h)))

pub others_set : (k q : ℕ) (u : ObjectState) (es : List (ℕ × ObjectState)) → (q ≡ k → ⊥) → lookup (is_at (nat_cmp q)) (set_value (is_at (nat_cmp k)) es u) ≡ lookup (is_at (nat_cmp q)) es
others_set k q u [] n = refl
others_set k q u (e ∷ es) n = by (nat_cmp k e.0) refl (nat_cmp q e.0) refl (others_set k q u es n)
  where
    by : (r : Ordering) → nat_cmp k e.0 ≡ r → (w : Ordering) → nat_cmp q e.0 ≡ w → lookup (is_at (nat_cmp q)) (set_value (is_at (nat_cmp k)) es u) ≡ lookup (is_at (nat_cmp q)) es
        → lookup (is_at (nat_cmp q)) (set_value (is_at (nat_cmp k)) (e ∷ es) u) ≡ lookup (is_at (nat_cmp q)) (e ∷ es)
    by Less h Less j i = rw (h, j) i
    by Less h Equal j i = rw (h, j) refl
    by Less h Greater j i = rw (h, j) i
    by Greater h Less j i = rw (h, j) i
    by Greater h Equal j i = rw (h, j) refl
    by Greater h Greater j i = rw (h, j) i
    by Equal h Less j i = rw (h, j) refl
    by Equal h Greater j i = rw (h, j) refl
    by Equal h Equal j i = absurd (n (nat_cmp-IsAntisymmetric q e.0 j ∙ sym (nat_cmp-IsAntisymmetric k e.0 h)))
