-- The scan of a list by a test, and for the least key, item by item.
use Rattle.std.proofs.Common.{◌≡◌, ℕ, ◌+◌, ◌<◌, ◌≤◌, cond, leb, Bool, true, false, List, slice_get, Option, Some, None, unwrap_or, refl, sym, ap, subst, ◌∙◌, ◌⊎◌, inl, inr, arith}
use Rattle.std.proofs.lemmas.Bool.{cases_eq, leb-true, leb-false}
use Rattle.cell_pool.specs.Lists.{lesser, AreFalse, IsLeastOf}

-- one more item is false
pub one_more : {X : Type 0} (R : X → Bool → Type 0) (xs : List X) (n : ℕ) (x : X) → slice_get xs n ≡ Some x → R x false → AreFalse R xs n → AreFalse R xs (n + 1)
one_more {X} R xs n x here is so_far k y below there = by (cases_eq k n)
  where
    by : (k ≡ n) ⊎ (k ≡ n → ⊥) → R y false
    by (inl e) = subst (λ z. R z false) (ap (λ o. unwrap_or o x) (sym here ∙ ap (slice_get xs) (sym e) ∙ there)) is
    by (inr ne) = so_far k y (omega (arith, below, ne)) there

module _ {X : Type 0} (R : X → Option ℕ → Type 0) (xs : List X) (n : ℕ) (x : X) (here : slice_get xs n ≡ Some x) where
  -- what is so of the first n items, and of the next one
  each_to : (P : X → Type 0) → ((k : ℕ) (y : X) → k < n → slice_get xs k ≡ Some y → P y) → P x → (k : ℕ) (y : X) → k < n + 1 → slice_get xs k ≡ Some y → P y
  each_to P so_far is k y below there = by (cases_eq k n)
    where
      by : (k ≡ n) ⊎ (k ≡ n → ⊥) → P y
      by (inl e) = subst P (ap (λ o. unwrap_or o x) (sym here ∙ ap (slice_get xs) (sym e) ∙ there)) is
      by (inr ne) = so_far k y (omega (arith, below, ne)) there

  abbrev AtLeast : ℕ → X → Type 0
  AtLeast m y = R y None ⊎ ((key : ℕ) × R y (Some key) × (m ≤ key))

  weaker : {l m : ℕ} (y : X) → l < m → AtLeast m y → AtLeast l y
  weaker y less (inl none) = inl none
  weaker y less (inr (key, has, le)) = inr (key, has, omega (arith, less, le))

  -- one more item: the lesser of the least so far and of its key
  pub least_more : (r : Option (ℕ × ℕ)) (key : Option ℕ) → R x key → IsLeastOf R xs n r → IsLeastOf R xs (n + 1) (lesser r n key)
  least_more None None is all = each_to (λ y. R y None) all is
  least_more None (Some m) is all = (x, here, is, each_to (AtLeast m) (λ k y below there. inl (all k y below there)) (inr (m, is, omega arith)))
  least_more (Some b) None is (y, there, has, all) = (y, there, has, each_to (AtLeast b.1) all (inl is))
  least_more (Some b) (Some m) is (y, there, has, all) = by (leb b.1 m) refl
    where
      by : (c : Bool) → leb b.1 m ≡ c → IsLeastOf R xs (n + 1) (cond c (Some b) (Some (n, m)))
      by true e = (y, there, has, each_to (AtLeast b.1) all (inr (m, is, leb-true b.1 m e)))
      by false e =
          let less : m < b.1 = leb-false b.1 m e in
          (x, here, is, each_to (AtLeast m) (λ k z below at. weaker z less (all k z below at)) (inr (m, is, omega arith)))
