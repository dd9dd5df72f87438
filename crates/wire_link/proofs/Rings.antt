-- The items of a ring buffer after an item was appended, or some of the first were dropped.
use Rattle.std.proofs.Common.{◌≡◌, refl, sym, ap, ◌∙◌, ℕ, zero, suc, ◌+◌, ◌-◌, ◌<◌, ◌≤◌, List, [], ◌∷◌, ◌++◌, length, Some, None, Bool, true, false, if◌then◌else◌, nat_lt, arith}
use Rattle.std.specs.Prelude.{drop, get_or, set, slice_get, take}
use Rattle.std.proofs.lemmas.List.{drop-append-le, drop-take, get_or-append-add, get_or-drop, get_or-take, get_or_append_left, length-append, length-drop, length-set, length-take-le, set-append_left, set-append_right, take-append-le}
use Rattle.std.proofs.Math.Seq.{drop-nil}
use Rattle.std.proofs.lemmas.Option.{slice_get-get_or, slice_get_past}
use Rattle.wire_link.specs.Rings.{from_place, wrap}

module _ {X : Type 0} where
  -- after an item is put at the end of what is looked at
  put_behind : (f n m : ℕ) (zs : List X) (x : X) → m ≡ f + n → m < length zs → take (suc n) (drop f (set zs m x)) ≡ take n (drop f zs) ++ x ∷ []
  put_behind f n m [] x e h = absurd (omega (arith, h))
  put_behind zero zero zero (z ∷ zs) x e h = refl
  put_behind zero zero (suc m) (z ∷ zs) x e h = absurd (omega (arith, e))
  put_behind zero (suc n) zero (z ∷ zs) x e h = absurd (omega (arith, e))
  put_behind zero (suc n) (suc m) (z ∷ zs) x e h = ap (λ ys. z ∷ ys) (put_behind zero n m zs x (omega (arith, e)) (omega (arith, h)))
  put_behind (suc f) n zero (z ∷ zs) x e h = absurd (omega (arith, e))
  put_behind (suc f) n (suc m) (z ∷ zs) x e h = put_behind f n m zs x (omega (arith, e)) (omega (arith, h))

  put_before : (f p : ℕ) (zs : List X) (x : X) → p < f → drop f (set zs p x) ≡ drop f zs
  put_before zero p zs x h = absurd (omega (arith, h))
  put_before (suc f) p [] x h = refl
  put_before (suc f) zero (z ∷ zs) x h = refl
  put_before (suc f) (suc p) (z ∷ zs) x h = put_before f p zs x (omega (arith, h))

  set_over : (p : ℕ) (zs : List X) (b x : X) → set (set zs p b) p x ≡ set zs p x
  set_over p [] b x = refl
  set_over zero (z ∷ zs) b x = refl
  set_over (suc p) (z ∷ zs) b x = ap (λ ys. z ∷ ys) (set_over p zs b x)

  drop_more : (f n m : ℕ) (zs : List X) → m ≡ f + n → drop n (drop f zs) ≡ drop m zs
  drop_more zero n m zs e = ap (λ k. drop k zs) (omega (arith, e))
  drop_more (suc f) n zero zs e = absurd (omega (arith, e))
  drop_more (suc f) n (suc m) [] e = drop-nil n
  drop_more (suc f) n (suc m) (z ∷ zs) e = drop_more f n m zs (omega (arith, e))

  drop_past : (xs ys : List X) (n m : ℕ) → length xs ≤ n → m ≡ n - length xs → drop n (xs ++ ys) ≡ drop m ys
  drop_past [] ys n m h e = ap (λ k. drop k ys) (omega (arith, e))
  drop_past (x ∷ xs) ys zero m h e = absurd (omega (arith, h))
  drop_past (x ∷ xs) ys (suc n) m h e = drop_past xs ys n m (omega (arith, h)) (omega (arith, e))

  -- what does not reach the end of the row is in the row alone
  in_row : (f n : ℕ) (xs ys : List X) → f + n ≤ length xs → take n (drop f (xs ++ ys)) ≡ take n (drop f xs)
  in_row f n xs ys h =
      ap (take n) (drop-append-le f xs ys (omega (arith, h))) ∙ take-append-le n (drop f xs) ys (let l = length-drop f xs in omega (arith, h, l))

  pub count_is : (f n : ℕ) (xs : List X) → f ≤ length xs → n ≤ length xs → length (from_place f n xs) ≡ n
  count_is f n xs h k = length-take-le n (drop f (xs ++ xs)) (let l = length-drop f (xs ++ xs) in let m = length-append xs xs in omega (arith, h, k, l, m))

  pub put_last : (f n : ℕ) (xs : List X) (x : X) → f ≤ length xs → n < length xs → from_place (f) (n + 1) (set xs (wrap (f + n) (length xs)) x) ≡ from_place f n xs ++ x ∷ []
  put_last f n xs x h k = by (nat_lt (f + n) (length xs)) refl
    where
      count : n + 1 ≡ suc n
      count = omega arith

      by : (b : Bool) → nat_lt (f + n) (length xs) ≡ b
          → from_place f (n + 1) (set xs (if b then f + n else (f + n) - length xs) x) ≡ from_place f n xs ++ x ∷ []
      by true e =
          let low : f + n < length xs = grind (arith, e) in
          let ys = set xs (f + n) x in
          let l = length-append xs ys in
          ap (λ m. take m (drop f (ys ++ ys))) count
          ∙ ap (λ zs. take (suc n) (drop f zs)) (sym (set-append_left xs ys (f + n) x low))
          ∙ put_behind f n (f + n) (xs ++ ys) x refl (omega (arith, l, low))
          ∙ ap (λ zs. zs ++ x ∷ []) (in_row f n xs ys (omega (arith, low)) ∙ sym (in_row f n xs xs (omega (arith, low))))
      by false e =
          let high : length xs ≤ f + n = grind (arith, e) in
          let p = (f + n) - length xs in
          let ys = set xs p x in
          let ly : length ys ≡ length xs = length-set xs p x in
          let l = length-append ys xs in
          ap (λ m. take m (drop f (ys ++ ys))) count
          ∙ ap (λ zs. take (suc n) (drop f zs)) (sym (set-append_right ys xs (length xs) (f + n) x ly high))
          ∙ put_behind f n (f + n) (ys ++ xs) x refl (omega (arith, l, ly, h, k))
          ∙ ap (λ zs. take n zs ++ x ∷ []) (drop-append-le f ys xs (omega (arith, ly, h)) ∙ ap (λ zs. zs ++ xs) (put_before f p xs x (omega (arith, high, h, k))) ∙ sym (drop-append-le f xs xs h))

  pub dropped : (f n k : ℕ) (xs : List X) → f ≤ length xs → n ≤ length xs → k ≤ n → from_place (wrap (f + k) (length xs)) (n - k) xs ≡ drop k (from_place f n xs)
  dropped f n k xs h l m = by (nat_lt (f + k) (length xs)) refl ∙ sym (rest k (n - k) n (omega (arith, m)))
    where
      rest : (a b c : ℕ) → c ≡ a + b → drop a (from_place f c xs) ≡ take b (drop (f + a) (xs ++ xs))
      rest a b c e = ap (λ i. drop a (take i (drop f (xs ++ xs)))) e ∙ drop-take a b (drop f (xs ++ xs)) ∙ ap (take b) (drop_more f a (f + a) (xs ++ xs) refl)

      by : (b : Bool) → nat_lt (f + k) (length xs) ≡ b → from_place (if b then f + k else (f + k) - length xs) (n - k) xs ≡ take (n - k) (drop (f + k) (xs ++ xs))
      by true e = refl
      by false e =
          let high : length xs ≤ f + k = grind (arith, e) in
          in_row ((f + k) - length xs) (n - k) xs xs (omega (arith, high, h, l, m)) ∙ ap (take (n - k)) (sym (drop_past xs xs (f + k) ((f + k) - length xs) high refl))

  pub item_at : (f n i : ℕ) (xs : List X) (d : X) → f ≤ length xs → n ≤ length xs → i < n → get_or (from_place f n xs) i d ≡ get_or xs (wrap (f + i) (length xs)) d
  item_at f n i xs d h k l = get_or-take n (drop f (xs ++ xs)) i d l ∙ get_or-drop f (xs ++ xs) i d ∙ by (nat_lt (f + i) (length xs)) refl
    where
      by : (b : Bool) → nat_lt (f + i) (length xs) ≡ b → get_or (xs ++ xs) (f + i) d ≡ get_or xs (if b then f + i else (f + i) - length xs) d
      by true e = get_or_append_left xs xs d (f + i) (grind (arith, e))
      by false e =
          let high : length xs ≤ f + i = grind (arith, e) in
          ap (λ j. get_or (xs ++ xs) j d) (omega (arith, high)) ∙ get_or-append-add xs xs ((f + i) - length xs) d

  -- the same, of a row of N cells in which the items ys stand
  module _ (f n N : ℕ) (xs ys : List X) (h : f ≤ N) (k : n ≤ N) (l : length xs ≡ N) (v : from_place f n xs ≡ ys) where
    pub long : length ys ≡ n
    long = ap length (sym v) ∙ count_is f n xs (omega (arith, h, l)) (omega (arith, k, l))

    pub found : (i p : ℕ) (d : X) → i < n → p ≡ wrap (f + i) N → Some (get_or xs p d) ≡ slice_get ys i
    found i p d lt e =
        let m = long in
        ap (λ q. Some (get_or xs q d)) (e ∙ ap (wrap (f + i)) (sym l))
        ∙ ap Some (sym (item_at f n i xs d (omega (arith, h, l)) (omega (arith, k, l)) lt) ∙ ap (λ zs. get_or zs i d) v)
        ∙ sym (slice_get-get_or ys i d (omega (arith, m, lt)))

    pub past : (i : ℕ) → n ≤ i → None ≡ slice_get ys i
    past i le = let m = long in sym (slice_get_past ys i (omega (arith, m, le)))

    pub put : (p : ℕ) (x : X) → length ys < N → p ≡ wrap (f + n) N → from_place f (n + 1) (set xs p x) ≡ ys ++ x ∷ []
    put p x lt e =
        let m = long in
        ap (λ q. from_place f (n + 1) (set xs q x)) (e ∙ ap (wrap (f + n)) (sym l))
        ∙ put_last f n xs x (omega (arith, h, l)) (omega (arith, m, l, lt)) ∙ ap (λ zs. zs ++ x ∷ []) v

    -- a blank was there before
    pub put_over : (p : ℕ) (b x : X) → length ys < N → p ≡ wrap (f + n) N → from_place f (n + 1) (set (set xs p b) p x) ≡ ys ++ x ∷ []
    put_over p b x lt e = ap (λ zs. from_place f (n + 1) zs) (set_over p xs b x) ∙ put p x lt e

    pub skipped : (i q : ℕ) → i ≤ length ys → q ≡ wrap (f + i) N → from_place q (n - i) xs ≡ drop i ys
    skipped i q le e =
        let m = long in
        ap (λ p. from_place p (n - i) xs) (e ∙ ap (wrap (f + i)) (sym l))
        ∙ dropped f n i xs (omega (arith, h, l)) (omega (arith, k, l)) (omega (arith, m, le)) ∙ ap (drop i) v
