-- Laws of the first place of a name in a list.
use Rattle.std.proofs.Common.{◌≡◌, refl, sym, ap, ◌∙◌, ℕ, zero, suc, ◌+◌, ◌<◌, ◌≤◌, ◌⊎◌, inl, inr, ◌==◌, ◌++◌, nat_lt, Bool, true, false, cond, List, [], ◌∷◌, length, take, get_or, slice_get, find, Option, Some, None, option_map, if◌then◌else◌, arith}
use Rattle.std.specs.List.{list_any}
use Rattle.std.proofs.lemmas.Bool.{cases_lt}
use Rattle.std.proofs.lemmas.Bool.Decides.{nat_tests}
use Rattle.std.proofs.lemmas.List.{get_or_append_left, get_or_push, get_or_default, length_push}
use Rattle.pool_syntax.specs.declared.tree.ClassDecl.{ClassDecl}
use Rattle.type_check.specs.Index.{place_of, place_with, Places, IsIndex, AreIndexes, method_name}

module _ {A : Type 0} (name : A → ℕ) where
  -- one more entry at the end
  pub place_of_push : (xs : List A) (x : A) (n : ℕ) → place_of name (xs ++ x ∷ []) n ≡ place_with (place_of name xs n) (name x) (length xs) n
  place_of_push [] x n = refl
  place_of_push (y ∷ ys) x n = by (name y == n) (place_of name ys n) (place_of_push ys x n)
    where
      by : (b : Bool) (o : Option ℕ) → place_of name (ys ++ x ∷ []) n ≡ place_with o (name x) (length ys) n
          → (if b then Some 0 else option_map suc (place_of name (ys ++ x ∷ []) n)) ≡ place_with (if b then Some 0 else option_map suc o) (name x) (suc (length ys)) n
      by true o h = refl
      by false (Some i) h = ap (option_map suc) h
      by false None h = ap (option_map suc) h ∙ grind arith

  module _ (x : A) (xs : List A) (n : ℕ) where
    there_by : (b : Bool) (o : Option ℕ) (i : ℕ) → ((j : ℕ) → o ≡ Some j → slice_get xs j ≡ find (λ y. name y == n) xs)
        → (if b then Some 0 else option_map suc o) ≡ Some i → slice_get (x ∷ xs) i ≡ cond b (Some x) (find (λ y. name y == n) xs)
    there_by true o i rest h = let e : i ≡ 0 = cc in rw e refl
    there_by false None i rest h = absurd (cc)
    there_by false (Some j) i rest h = let e : i ≡ suc j = cc in rw e (rest j refl)

    nowhere_by : (b : Bool) (o : Option ℕ) → (o ≡ None → find (λ y. name y == n) xs ≡ None) → (if b then Some 0 else option_map suc o) ≡ None → cond b (Some x) (find (λ y. name y == n) xs) ≡ None
    nowhere_by true o rest h = absurd (cc)
    nowhere_by false None rest h = rest refl
    nowhere_by false (Some j) rest h = absurd (cc)

    before_by : (b : Bool) (o : Option ℕ) (i k : ℕ) → ((j m : ℕ) → o ≡ Some j → list_any (λ y. name y == n) (take m xs) ≡ nat_lt j m)
        → (if b then Some 0 else option_map suc o) ≡ Some i → (name x == n) ≡ b → list_any (λ y. name y == n) (take k (x ∷ xs)) ≡ nat_lt i k
    before_by b o i zero rest h e = grind (arith, nat_tests)
    before_by true o i (suc k) rest h e = let z : i ≡ 0 = cc in rw (z, e) (grind (arith, nat_tests))
    before_by false None i (suc k) rest h e = absurd (cc)
    before_by false (Some j) i (suc k) rest h e = let z : i ≡ suc j = cc in rw (z, e) (rest j k refl ∙ grind (arith, nat_tests))

    past_by : (b : Bool) (o : Option ℕ) (k : ℕ) → ((m : ℕ) → o ≡ None → list_any (λ y. name y == n) (take m xs) ≡ false)
        → (if b then Some 0 else option_map suc o) ≡ None → (name x == n) ≡ b → list_any (λ y. name y == n) (take k (x ∷ xs)) ≡ false
    past_by b o zero rest h e = refl
    past_by true o (suc k) rest h e = absurd (cc)
    past_by false None (suc k) rest h e = rw e (rest k refl)
    past_by false (Some j) (suc k) rest h e = absurd (cc)

  -- the entry at the place is the first of the name
  pub found_there : (xs : List A) (n i : ℕ) → place_of name xs n ≡ Some i → slice_get xs i ≡ find (λ y. name y == n) xs
  found_there [] n i h = absurd (cc)
  found_there (x ∷ xs) n i h = there_by x xs n (name x == n) (place_of name xs n) i (λ j e. found_there xs n j e) h

  pub found_nowhere : (xs : List A) (n : ℕ) → place_of name xs n ≡ None → find (λ y. name y == n) xs ≡ None
  found_nowhere [] n h = refl
  found_nowhere (x ∷ xs) n h = nowhere_by x xs n (name x == n) (place_of name xs n) (λ e. found_nowhere xs n e) h

  -- some entry before a place has the name where the first of the name stands before it
  pub before_there : (xs : List A) (n i k : ℕ) → place_of name xs n ≡ Some i → list_any (λ y. name y == n) (take k xs) ≡ nat_lt i k
  before_there [] n i k h = absurd (cc)
  before_there (x ∷ xs) n i k h = before_by x xs n (name x == n) (place_of name xs n) i k (λ j m e. before_there xs n j m e) h refl

  pub before_nowhere : (xs : List A) (n k : ℕ) → place_of name xs n ≡ None → list_any (λ y. name y == n) (take k xs) ≡ false
  before_nowhere [] n zero h = refl
  before_nowhere [] n (suc k) h = refl
  before_nowhere (x ∷ xs) n k h = past_by x xs n (name x == n) (place_of name xs n) k (λ m e. before_nowhere xs n m e) h refl

  pub found_within : (xs : List A) (n i : ℕ) → place_of name xs n ≡ Some i → i < length xs
  found_within [] n i h = absurd (cc)
  found_within (x ∷ xs) n i h = by (name x == n) (place_of name xs n) (λ j e. found_within xs n j e) h
    where
      by : (b : Bool) (o : Option ℕ) → ((j : ℕ) → o ≡ Some j → j < length xs) → (if b then Some 0 else option_map suc o) ≡ Some i → i < suc (length xs)
      by true o rest h = let e : i ≡ 0 = cc in omega arith
      by false None rest h = absurd (cc)
      by false (Some j) rest h = let e : i ≡ suc j = cc in let below = rest j refl in omega arith

-- one more map, of the methods of the next class
pub indexes_push : (all : List Places) (ks : List ClassDecl) (places : Places) (k : ClassDecl) → length all < length ks → k ≡ get_or ks (length all) k
    → IsIndex method_name places k.methods → AreIndexes all ks → AreIndexes (all ++ places ∷ []) ks
indexes_push all ks places k within at one before = λ i p j below is_p is_j. by i p j is_p is_j (omega (arith, length_push all places)) (cases_lt i (length all))
  where
    by : (i : ℕ) (p : Places) (j : ClassDecl) → p ≡ get_or (all ++ places ∷ []) i p → j ≡ get_or ks i j → i < length all + 1 → (i < length all) ⊎ (length all ≤ i) → IsIndex method_name p j.methods
    by i p j is_p is_j below (inl less) = before i p j less (is_p ∙ get_or_append_left all (places ∷ []) p i less) is_j
    by i p j is_p is_j below (inr past) =
        let last : i ≡ length all = omega arith in
        let is_places : p ≡ places = is_p ∙ get_or_push all places p i (sym last) in
        let is_k : j ≡ k = is_j ∙ ap (λ m. get_or ks m j) last ∙ get_or_default ks (length all) j k within ∙ sym at in
        rw (is_places, is_k) one
