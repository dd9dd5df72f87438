-- Maps with rising keys: their entries below a number, and the entries that are found in them.
use Rattle.std.proofs.Common.{◌≡◌, ◌≢◌, ◌∙◌, ◌+◌, ◌<◌, ◌≤◌, ◌==◌, ◌++◌, ℕ, zero, suc, Bool, true, false, cond, nat_lt, List, [], ◌∷◌, slice_get, Option, Some, None, IsTrue, refl, sym, ap, subst, arith}
use Rattle.std.specs.Ordering.{nat_cmp, is_lt}
use Rattle.std.specs.FinMap.Entries.{find, is_sorted, below_all}
use Rattle.std.specs.FinMap.{nat_cmp-IsAntisymmetric}
use Rattle.std.specs.Cmp.{nat_cmp_total, tied_itself}
use Rattle.std.specs.declared.cmp.Ordering.{Ordering}
use Rattle.std.specs.declared.cmp.Ordering.TheVariants.{Less, Equal, Greater}
use Rattle.run_types.proofs.Laws.{first, second, equal, same_some, less_than}
use Rattle.run_loop.specs.ReportRows.{below}

-- keys that rise

-- each key is above a number, and the keys rise
abbrev pub AreAbove : {X : Type 0} → ℕ → List (ℕ × X) → Type 0
AreAbove n [] = Unit {0}
AreAbove n (e ∷ es) = (n < e.0) × AreAbove n es

abbrev pub DoRise : {X : Type 0} → List (ℕ × X) → Type 0
DoRise [] = Unit {0}
DoRise (e ∷ es) = AreAbove e.0 es × DoRise es

module _ {X : Type 0} where
  above : (n : ℕ) (es : List (ℕ × X)) → IsTrue (below_all nat_cmp n es) → AreAbove n es
  above n [] h = tt
  above n (e ∷ es) h = (less_than n e.0 (first (is_lt (nat_cmp n e.0)) (below_all nat_cmp n es) h), above n es (second (is_lt (nat_cmp n e.0)) (below_all nat_cmp n es) h))

  pub rises : (es : List (ℕ × X)) → IsTrue (is_sorted nat_cmp es) → DoRise es
  rises [] h = tt
  rises (e ∷ es) h = (above e.0 es (first (below_all nat_cmp e.0 es) (is_sorted nat_cmp es) h), rises es (second (below_all nat_cmp e.0 es) (is_sorted nat_cmp es) h))

  -- what is found
  abbrev found_or : Bool → X → Option X → Option X
  found_or b x o = cond b (Some x) o

  pub find_here : (n : ℕ) (x : X) (es : List (ℕ × X)) → find nat_cmp n ((n, x) ∷ es) ≡ Some x
  find_here n x es = rw (tied_itself nat_cmp_total n) refl

  pub find_later : (n : ℕ) (e : ℕ × X) (es : List (ℕ × X)) → n ≢ e.0 → find nat_cmp n (e ∷ es) ≡ find nat_cmp n es
  find_later n e es other = by (nat_cmp n e.0) refl
    where
      by : (r : Ordering) → nat_cmp n e.0 ≡ r → find nat_cmp n (e ∷ es) ≡ find nat_cmp n es
      by Less i = rw i refl
      by Greater i = rw i refl
      by Equal i = absurd (other (nat_cmp-IsAntisymmetric n e.0 i))

  none_above : (n m : ℕ) (es : List (ℕ × X)) → n ≤ m → AreAbove m es → find nat_cmp n es ≡ None
  none_above n m [] l h = refl
  none_above n m (e ∷ es) l h = find_later n e es (λ q. let k = h.0 in omega (arith, q, l, k)) ∙ none_above n m es l h.1

  -- the entries below a number

  below_is : (n : ℕ) (e : ℕ × X) (es : List (ℕ × X)) → e.0 < n → below n (e ∷ es) ≡ e ∷ below n es
  below_is n e es h = let t : nat_lt e.0 n ≡ true = grind (arith, h) in ap (λ (b : Bool). cond b (e ∷ below n es) []) t

  below_not : (n : ℕ) (e : ℕ × X) (es : List (ℕ × X)) → n ≤ e.0 → below n (e ∷ es) ≡ []
  below_not n e es h = let t : nat_lt e.0 n ≡ false = grind (arith, h) in ap (λ (b : Bool). cond b (e ∷ below n es) []) t

  pub none_below : (es : List (ℕ × X)) → below 0 es ≡ []
  none_below [] = refl
  none_below (e ∷ es) = below_not 0 e es (omega arith)

  below_above : (n m : ℕ) (es : List (ℕ × X)) → n ≤ m + 1 → AreAbove m es → below n es ≡ []
  below_above n m [] l h = refl
  below_above n m (e ∷ es) l h = below_not n e es (let k = h.0 in omega (arith, l, k))

  pub below_one : (n : ℕ) (x : X) (es : List (ℕ × X)) → DoRise es → find nat_cmp n es ≡ Some x → below (n + 1) es ≡ below n es ++ (n, x) ∷ []
  below_one n x [] r h = absurd (cc)
  below_one n x (e ∷ es) r h = by (nat_lt n e.0) refl (n == e.0) refl (below_one n x es r.1)
    where
      by : (s : Bool) → nat_lt n e.0 ≡ s → (t : Bool) → (n == e.0) ≡ t → (find nat_cmp n es ≡ Some x → below (n + 1) es ≡ below n es ++ (n, x) ∷ []) → below (n + 1) (e ∷ es) ≡ below n (e ∷ es) ++ (n, x) ∷ []
      by true i t j go =
          let l : n < e.0 = grind (arith, i) in
          absurd (let z : Some x ≡ None = sym h ∙ find_later n e es (λ q. omega (arith, q, l)) ∙ none_above n e.0 es (omega (arith, l)) r.0 in cc)
      by false i true j go =
          let q : n ≡ e.0 = equal n e.0 j in
          let is : e.1 ≡ x = same_some (sym (find_here e.0 e.1 es) ∙ ap (λ (k : ℕ). find nat_cmp k (e ∷ es)) (sym q) ∙ h) in
          below_is (n + 1) e es (omega (arith, q)) ∙ ap (λ (z : List (ℕ × X)). e ∷ z) (below_above (n + 1) e.0 es (omega (arith, q)) r.0)
          ∙ ap (λ (k : ℕ). (k, e.1) ∷ []) (sym q) ∙ ap (λ (y : X). (n, y) ∷ []) is
          ∙ ap (λ (z : List (ℕ × X)). z ++ (n, x) ∷ []) (sym (below_not n e es (omega (arith, q))))
      by false i false j go =
          let ne : n ≢ e.0 = λ q. let z : true ≡ false = sym (ap (λ (k : ℕ). k == e.0) q ∙ same_number e.0) ∙ j in cc in
          let l : e.0 < n = let a : nat_lt n e.0 ≡ false = i in lower n e.0 i ne in
          below_is (n + 1) e es (omega (arith, l)) ∙ ap (λ (z : List (ℕ × X)). e ∷ z) (go (sym (find_later n e es ne) ∙ h))
          ∙ ap (λ (z : List (ℕ × X)). z ++ (n, x) ∷ []) (sym (below_is n e es l))
        where
          same_number : (k : ℕ) → (k == k) ≡ true
          same_number k = grind arith

          lower : (a b : ℕ) → nat_lt a b ≡ false → a ≢ b → b < a
          lower a b f o = grind (arith, f, o)

  pub below_none : (n : ℕ) (es : List (ℕ × X)) → find nat_cmp n es ≡ None → below (n + 1) es ≡ below n es
  below_none n [] h = refl
  below_none n (e ∷ es) h = by (nat_lt e.0 n) refl (n == e.0) refl (below_none n es)
    where
      by : (s : Bool) → nat_lt e.0 n ≡ s → (t : Bool) → (n == e.0) ≡ t → (find nat_cmp n es ≡ None → below (n + 1) es ≡ below n es) → below (n + 1) (e ∷ es) ≡ below n (e ∷ es)
      by true i t j go =
          let l : e.0 < n = grind (arith, i) in
          below_is (n + 1) e es (omega (arith, l)) ∙ ap (λ (z : List (ℕ × X)). e ∷ z) (go (sym (find_later n e es (λ q. omega (arith, q, l))) ∙ h)) ∙ sym (below_is n e es l)
      by false i true j go =
          let q : n ≡ e.0 = equal n e.0 j in
          absurd (let z : Some e.1 ≡ None = sym (find_here e.0 e.1 es) ∙ ap (λ (k : ℕ). find nat_cmp k (e ∷ es)) (sym q) ∙ h in cc)
      by false i false j go = let l : n + 1 ≤ e.0 = past n e.0 i j in below_not (n + 1) e es l ∙ sym (below_not n e es (omega (arith, l)))
        where
          past : (a b : ℕ) → nat_lt b a ≡ false → (a == b) ≡ false → a + 1 ≤ b
          past a b f o = grind (arith, f, o)

  -- no entry from a number on, for so many
  pub below_gap : (k a : ℕ) (es : List (ℕ × X)) → ((o : ℕ) → a ≤ o → o < a + k → find nat_cmp o es ≡ None) → below (a + k) es ≡ below a es
  below_gap zero a es h = ap (λ (n : ℕ). below n es) (omega arith)
  below_gap (suc k) a es h =
      ap (λ (n : ℕ). below n es) (more a k) ∙ below_none (a + k) es (h (a + k) (omega arith) (omega arith))
      ∙ below_gap k a es (λ o l m. h o l (omega (arith, m)))
    where
      more : (a k : ℕ) → a + suc k ≡ (a + k) + 1
      more a k = omega arith

  -- all are below a number
  pub below_all_of : (n : ℕ) (es : List (ℕ × X)) → ((o : ℕ) (x : X) → find nat_cmp o es ≡ Some x → o < n) → DoRise es → below n es ≡ es
  below_all_of n [] h r = refl
  below_all_of n (e ∷ es) h r =
      below_is n e es (h e.0 e.1 (find_here e.0 e.1 es))
      ∙ ap (λ (z : List (ℕ × X)). e ∷ z) (below_all_of n es (λ o x q. h o x (find_later o e es (later o x q) ∙ q)) r.1)
    where
      later : (o : ℕ) (x : X) → find nat_cmp o es ≡ Some x → o ≢ e.0
      later o x q same = let z : Some x ≡ None = sym q ∙ none_above o e.0 es (omega (arith, same)) r.0 in cc

  -- an entry of keys that rise is found
  pub finds : (es : List (ℕ × X)) (k : ℕ) (e : ℕ × X) → DoRise es → slice_get es k ≡ Some e → find nat_cmp e.0 es ≡ Some e.1
  finds [] k e r h = absurd (cc)
  finds (f ∷ es) zero e r h = let same : f ≡ e = same_some h in subst (λ (z : ℕ × X). find nat_cmp z.0 (f ∷ es) ≡ Some z.1) same (find_here f.0 f.1 es)
  finds (f ∷ es) (suc k) e r h =
      let deep = finds es k e r.1 h in
      find_later e.0 f es (λ same. let z : Some e.1 ≡ None = sym deep ∙ none_above e.0 f.0 es (omega (arith, same)) r.0 in cc) ∙ deep
