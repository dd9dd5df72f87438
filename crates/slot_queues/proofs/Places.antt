-- The first element of a list that passes a test.
use Rattle.std.proofs.Common.{◌≡◌, ℕ, ◌+◌, cond, Bool, true, false, List, [], ◌∷◌, ◌++◌, length, slice_get, position, remove, Some, None, refl, sym, ap, ◌∙◌, arith}
use Rattle.std.specs.List.{position_from}
use Rattle.std.proofs.lemmas.Iterator.Adapters.{position_from-zero}
use Rattle.run_types.specs.Tables.{Each}

pub there : {X : Type 0} (xs : List X) (y : X) (ys : List X) → slice_get (xs ++ y ∷ ys) (length xs) ≡ Some y
there [] y ys = refl
there (x ∷ xs) y ys = there xs y ys

pub removed : {X : Type 0} (xs : List X) (y : X) (ys : List X) → remove (xs ++ y ∷ ys) (length xs) ≡ xs ++ ys
removed [] y ys = refl
removed (x ∷ xs) y ys = ap (λ l. x ∷ l) (removed xs y ys)

module _ {X : Type 0} (p : X → Bool) where
  from_at : (n : ℕ) (xs : List X) (y : X) (ys : List X) → Each (λ x. p x ≡ false) xs → p y ≡ true → position_from p n (xs ++ y ∷ ys) ≡ Some (n + length xs)
  from_at n [] y ys none here = ap (λ b. cond b (Some n) (position_from p (n + 1) ys)) here ∙ ap Some (omega arith)
  from_at n (x ∷ xs) y ys none here =
      ap (λ b. cond b (Some n) (position_from p (n + 1) (xs ++ y ∷ ys))) none.0 ∙ from_at (n + 1) xs y ys none.1 here ∙ ap Some (omega arith)

  from_none : (n : ℕ) (xs : List X) → Each (λ x. p x ≡ false) xs → position_from p n xs ≡ None
  from_none n [] none = refl
  from_none n (x ∷ xs) none = ap (λ b. cond b (Some n) (position_from p (n + 1) xs)) none.0 ∙ from_none (n + 1) xs none.1

  -- y stands behind elements that do not pass
  pub position_at : (xs : List X) (y : X) (ys : List X) → Each (λ x. p x ≡ false) xs → p y ≡ true → position p (xs ++ y ∷ ys) ≡ Some (length xs)
  position_at xs y ys none here = position_from-zero p (xs ++ y ∷ ys) ∙ from_at 0 xs y ys none here ∙ ap Some (omega arith)

  pub position_none : (xs : List X) → Each (λ x. p x ≡ false) xs → position p xs ≡ None
  position_none xs none = position_from-zero p xs ∙ from_none 0 xs none

  -- a list around its first element that passes, whose place is r, counted from n
  pub record Split (n : ℕ) (xs : List X) (r : ℕ) : Type 0 where
    pub before : List X
    pub first : X
    pub after : List X
    pub all : xs ≡ before ++ first ∷ after
    pub none : Each (λ x. p x ≡ false) before
    pub passes : p first ≡ true
    pub place : r ≡ n + length before

  split_from : (n : ℕ) (xs : List X) (r : ℕ) → position_from p n xs ≡ Some r → Split n xs r
  split_from n [] r e = cc
  split_from n (x ∷ xs) r e = by (p x) refl e (split_from (n + 1) xs r)
    where
      by : (b : Bool) → p x ≡ b → cond b (Some n) (position_from p (n + 1) xs) ≡ Some r → (position_from p (n + 1) xs ≡ Some r → Split (n + 1) xs r) → Split n (x ∷ xs) r
      by true here e later = let same : n ≡ r = cc in record { before = []; first = x; after = xs; all = refl; none = tt; passes = here; place = omega arith }
      by false here e later = let s = later e in record {
        before = x ∷ s.before;
        first = s.first;
        after = s.after;
        all = ap (λ l. x ∷ l) s.all;
        none = (here, s.none);
        passes = s.passes;
        place = omega (arith, s.place);
      }

  none_from : (n : ℕ) (xs : List X) → position_from p n xs ≡ None → Each (λ x. p x ≡ false) xs
  none_from n [] e = tt
  none_from n (x ∷ xs) e = by (p x) refl e (none_from (n + 1) xs)
    where
      by : (b : Bool) → p x ≡ b → cond b (Some n) (position_from p (n + 1) xs) ≡ None → (position_from p (n + 1) xs ≡ None → Each (λ x. p x ≡ false) xs) → Each (λ x. p x ≡ false) (x ∷ xs)
      by true here e later = cc
      by false here e later = (here, later e)

  pub split : (xs : List X) (r : ℕ) → position p xs ≡ Some r → Split 0 xs r
  split xs r e = split_from 0 xs r (sym (position_from-zero p xs) ∙ e)

  pub none_passes : (xs : List X) → position p xs ≡ None → Each (λ x. p x ≡ false) xs
  none_passes xs e = none_from 0 xs (sym (position_from-zero p xs) ∙ e)
