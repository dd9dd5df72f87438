-- The least stamps that an index has.
use Rattle.std.proofs.Common.{◌≡◌, refl, ap, sym, ◌∙◌, subst, ℕ, ◌<◌, ◌≤◌, ◌+◌, ◌||◌, List, [], ◌∷◌, length, take, get_or, Option, Some, None, Bool, true, false, ◌==◌, arith}
use Rattle.std.specs.Ordering.{is_gt}
use Rattle.std.specs.declared.ops.Bound.TheVariants.{Included, Unbounded}
use Rattle.std.specs.BTreeSet.{BTreeSet, contains, IsKeyRangeOf}
use Rattle.std.proofs.lemmas.List.Folds.{list_any_more}
use Rattle.pool_syntax.specs.declared.tree.Named.{Named}
use Rattle.pool_relation.specs.Transition.{names_method}
use Rattle.run_types.specs.Tables.{Pair, pair_cmp}
use Rattle.message_queue.specs.Stamps.{IsLeast, IsLeastFor}

-- what the order of pairs tells
up_to : (a b c d : ℕ) → is_gt (pair_cmp (a, b) (c, d)) ≡ false → a ≤ c
up_to a b c d h = grind (arith, h)

up_to_second : (a b d : ℕ) → is_gt (pair_cmp (a, b) (a, d)) ≡ false → b ≤ d
up_to_second a b d h = grind (arith, h)

from_zero : (a d : ℕ) → is_gt (pair_cmp (a, 0) (a, d)) ≡ false
from_zero a d = grind arith

-- the first pair from a method on
pub first_here : (s : BTreeSet Pair) (a : ℕ) (r t : List Pair) (p : Pair) → IsKeyRangeOf pair_cmp (Included (a, 0)) Unbounded s r → r ≡ p ∷ t → p.0 ≡ a → IsLeast (λ m. m == a) s p.1
first_here s a r t p h e q = by (subst (λ u. IsKeyRangeOf pair_cmp (Included (a, 0)) Unbounded s u) e h)
  where
    by : IsKeyRangeOf pair_cmp (Included (a, 0)) Unbounded s (p ∷ t) → IsLeast (λ m. m == a) s p.1
    by k = record {
      method = a;
      passes = grind arith;
      has = subst (λ n. contains pair_cmp s (n, p.1) ≡ true) q (k.1).1;
      least = λ m j d c. let w : m ≡ a = grind (arith, d) in
          let v : contains pair_cmp s (a, j) ≡ true = subst (λ n. contains pair_cmp s (n, j) ≡ true) w c in
          let z : is_gt (pair_cmp p (a, j)) ≡ false = k.2 (a, j) (from_zero a j, tt) v in
          up_to_second a p.1 j (subst (λ n. is_gt (pair_cmp (n, p.1) (a, j)) ≡ false) q z);
    }

pub first_other : (s : BTreeSet Pair) (a : ℕ) (r t : List Pair) (p : Pair) → IsKeyRangeOf pair_cmp (Included (a, 0)) Unbounded s r → r ≡ p ∷ t → (p.0 ≡ a → ⊥) → IsLeastFor (λ m. m == a) s None
first_other s a r t p h e q = by (subst (λ u. IsKeyRangeOf pair_cmp (Included (a, 0)) Unbounded s u) e h)
  where
    by : IsKeyRangeOf pair_cmp (Included (a, 0)) Unbounded s (p ∷ t) → IsLeastFor (λ m. m == a) s None
    by k = λ m j d. let w : m ≡ a = grind (arith, d) in cases m j w (contains pair_cmp s (m, j)) refl
      where
        cases : (m j : ℕ) → m ≡ a → (b : Bool) → contains pair_cmp s (m, j) ≡ b → contains pair_cmp s (m, j) ≡ false
        cases m j w false c = c
        cases m j w true c =
            let v : contains pair_cmp s (a, j) ≡ true = subst (λ n. contains pair_cmp s (n, j) ≡ true) w c in
            let z : is_gt (pair_cmp p (a, j)) ≡ false = k.2 (a, j) (from_zero a j, tt) v in
            let y : is_gt (pair_cmp (a, 0) p) ≡ false = (k.1).0.0 in
            let low = up_to a 0 p.0 p.1 y in
            let high = up_to p.0 p.1 a j z in
            absurd (q (omega (arith, low, high)))

pub first_none : (s : BTreeSet Pair) (a : ℕ) (r : List Pair) → IsKeyRangeOf pair_cmp (Included (a, 0)) Unbounded s r → r ≡ [] → IsLeastFor (λ m. m == a) s None
first_none s a r h e = λ m j d. let w : a ≡ m = grind (arith, d) in subst (λ n. contains pair_cmp s (n, j) ≡ false) w (h.5 e (a, j) (from_zero a j, tt))

-- tests that agree have the same least stamp
pub same_test : (p q : ℕ → Bool) (s : BTreeSet Pair) (r : Option ℕ) → ((m : ℕ) → p m ≡ q m) → IsLeastFor p s r → IsLeastFor q s r
same_test p q s None e f = λ m j h. f m j (e m ∙ h)
same_test p q s (Some a) e f = record { method = f.method; passes = sym (e f.method) ∙ f.passes; has = f.has; least = λ m j h c. f.least m j (e m ∙ h) c }

-- one more name
pub one_more : (names : List Named) (i : ℕ) (d : Named) (s : BTreeSet Pair) (r : Option ℕ) → i < length names → IsLeastFor (λ m. names_method (take i names) m || m == (get_or names i d).name.0) s r → IsLeastFor (names_method (take (i + 1) names)) s r
one_more names i d s r l h = same_test _ _ s r (λ m. by m (list_any_more (λ n. n.name.0 == m) names i d l)) h
  where
    by : (m : ℕ) → names_method (take (i + 1) names) m ≡ (names_method (take i names) m || (get_or names i d).name.0 == m) → (names_method (take i names) m || m == (get_or names i d).name.0) ≡ names_method (take (i + 1) names) m
    by m e = let f : (m == (get_or names i d).name.0) ≡ ((get_or names i d).name.0 == m) = grind arith in ap (λ b. names_method (take i names) m || b) f ∙ sym e
