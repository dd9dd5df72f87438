-- The lemmas that other crates cite: a first index by a test that a function describes, and a least key that it describes.
use Rattle.std.proofs.Common.{◌≡◌, ℕ, ◌<◌, ◌≤◌, ◌⊎◌, inl, inr, Bool, true, false, not, cond, List, [], ◌∷◌, length, get_or, position, nat_lt, Option, Some, None, refl, sym, ap, ◌∙◌, arith, lt-ltb, le-ltb, Bor}
use Rattle.std.specs.List.{position_or_len}
use Rattle.std.proofs.lemmas.List.Sums.{prefix_len_is}
use Rattle.std.proofs.lemmas.Option.{slice_get-get_or, get_or_from_slice_get, slice_get_within}
use Rattle.std.specs.Fn.{FnReturnsAt, Shared}
use Rattle.cell_pool.specs.Lists.{AreFalse, IsFirst, IsLeast}

module _ {X : Type 0} (p : X → Bool) (R : X → Bool → Type 0) (tells : (x : X) (b : Bool) → R x b → b ≡ p x) where
  fails : (xs : List X) (n k : ℕ) (d : X) → AreFalse R xs n → k < n → k < length xs → not (p (get_or xs k d)) ≡ true
  fails xs n k d all less within = ap not (sym (tells (get_or xs k d) false (all k (get_or xs k d) less (slice_get-get_or xs k d within))))

  none_passes : (xs : List X) → AreFalse R xs (length xs) → position_or_len p xs ≡ length xs
  none_passes [] all = refl
  none_passes (x ∷ xs) all = prefix_len_is (λ y. not (p y)) (x ∷ xs) (length (x ∷ xs)) x (omega arith) (λ k less. fails (x ∷ xs) (length (x ∷ xs)) k x all less less) (λ less. absurd (omega (arith, less)))

  first_at : (xs : List X) (r : Option ℕ) → IsFirst R xs r → r ≡ position p xs
  first_at xs None all =
      sym (ap (λ n. cond (nat_lt n (length xs)) (Some n) None) (none_passes xs all) ∙ ap (λ b. cond b (Some (length xs)) None) (le-ltb (length xs) (length xs) (omega arith)))
  first_at xs (Some i) (x, here, passes, before) =
      let within = slice_get_within xs i x here in
      let n : position_or_len p xs ≡ i = prefix_len_is (λ y. not (p y)) xs i x (omega (arith, within)) (λ k less. fails xs i k x before less (omega (arith, less, within)))
      (λ _. ap not (ap p (get_or_from_slice_get xs i x x here) ∙ sym (tells x true passes))) in
      sym (ap (λ m. cond (nat_lt m (length xs)) (Some m) None) n ∙ ap (λ b. cond b (Some i) None) (lt-ltb i (length xs) within))

-- where a call of an `Fn` returns what p gives, the first place by its calls is the first at which p is true
pub first_is_position : {F X : Type 0} {f : Shared F (Bor X × Unit {0}) Bool} {test : F} (p : X → Bool) (xs : List X) (r : Option ℕ)
    → IsFirst (FnReturnsAt f test) xs r → ((x : X) (b : Bool) → FnReturnsAt f test x b → b ≡ p x) → r ≡ position p xs
first_is_position {f = f} {test = test} p xs r is tells = first_at p (FnReturnsAt f test) tells xs r is

-- where a call of an `Fn` returns what k gives, the least key by its calls is the least that k gives
pub least_by_function : {F X : Type 0} {f : Shared F (Bor X × Unit {0}) (Option ℕ)} {key : F} (k : X → Option ℕ) (xs : List X) (r : Option (ℕ × ℕ))
    → IsLeast (FnReturnsAt f key) xs r → ((x : X) (o : Option ℕ) → FnReturnsAt f key x o → o ≡ k x) → IsLeast (λ x o. o ≡ k x) xs r
least_by_function k xs None all tells = λ i x below at. tells x None (all i x below at)
least_by_function {f = f} {key = key} k xs (Some b) (x, at, has, all) tells = (x, at, tells x (Some b.1) has, λ i y below there. by y (all i y below there))
  where
    by : (y : _) → FnReturnsAt f key y None ⊎ ((m : ℕ) × FnReturnsAt f key y (Some m) × (b.1 ≤ m)) → (None ≡ k y) ⊎ ((m : ℕ) × (Some m ≡ k y) × (b.1 ≤ m))
    by y (inl none) = inl (tells y None none)
    by y (inr (m, some, le)) = inr (m, tells y (Some m) some, le)
