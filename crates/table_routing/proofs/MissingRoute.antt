-- The search for the first pair of nodes that has no route.
use Rattle.std.proofs.Common.{◌≡◌, refl, ap, ◌∙◌, ℕ, suc, ◌+◌, ◌-◌, ◌<◌, List, ◌∷◌, Some, None, true, false, arith}
use Rattle.std.specs.List.{range_with_len}
use Rattle.run_types.specs.declared.types.Placement.{Placement}
use Rattle.run_types.specs.Tables.{Pair}
use Rattle.run_types.specs.Routes.{broken_from, broken_to, is_broken}

-- the numbers that are left begin with this one
left : (k s : ℕ) → k < s → range_with_len k (s - k) ≡ k ∷ range_with_len (k + 1) (s - (k + 1))
left k s h = let e : s - k ≡ suc (s - (k + 1)) = omega (arith, h) in ap (range_with_len k) e

module _ (l : Placement) (a k s : ℕ) (few : k < s) where
  pub broken_here : is_broken l a k ≡ true → broken_to l a (range_with_len k (s - k)) ≡ Some (a, k)
  broken_here e = ap (broken_to l a) (left k s few) ∙ rw e refl

  pub whole_here : is_broken l a k ≡ false → broken_to l a (range_with_len k (s - k)) ≡ broken_to l a (range_with_len (k + 1) (s - (k + 1)))
  whole_here e = ap (broken_to l a) (left k s few) ∙ rw e refl

module _ (l : Placement) (k s : ℕ) (few : k < s) (bs : List ℕ) where
  pub found_here : (p : Pair) → broken_to l k bs ≡ Some p → broken_from l (range_with_len k (s - k)) bs ≡ Some p
  found_here p e = ap (λ cs. broken_from l cs bs) (left k s few) ∙ rw e refl

  pub none_here : broken_to l k bs ≡ None → broken_from l (range_with_len k (s - k)) bs ≡ broken_from l (range_with_len (k + 1) (s - (k + 1))) bs
  none_here e = ap (λ cs. broken_from l cs bs) (left k s few) ∙ rw e refl
