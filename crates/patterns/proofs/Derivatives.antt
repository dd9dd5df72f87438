-- What is left of a pattern after some items matches exactly what may follow them.
use Rattle.std.proofs.Common.{◌≡◌, ◌⊎◌, inl, inr, refl, sym, ap, ◌∙◌, subst, ℕ, List, [], ◌∷◌, ◌++◌, Bool, true, false, ◌&&◌, ◌||◌, if◌then◌else◌, append-nil}
use Rattle.run_types.proofs.Laws.{first, second, both, equal, equals, same_value, value_itself}
use Rattle.run_types.specs.declared.types.Value.TheVariants as V
use Rattle.run_types.specs.declared.types.Item.{Item}
use Rattle.run_types.specs.declared.types.Item.TheVariants as I
use Rattle.run_types.specs.Same.{is_same_item}
use Rattle.patterns.specs.Patterns.{Pattern, Never, Nothing, One, Any, Either, Then, Both, Repeated, nameless, are_alike, Interleaves, Ended, FromFirst, FromSecond, IsMadeOf, OfNone, OfMore, Matches, is_nullable, is_void, are_same_patterns, with_one, alternatives, in_series, beside, mixed, after_item, after_items, BeginsOne}

item_itself : (i : Item) → is_same_item i i ≡ true
item_itself (I.Value v) = value_itself v
item_itself (I.Text t) = equals t.0

pub same_item : (i j : Item) → is_same_item i j ≡ true → i ≡ j
same_item (I.Value v) (I.Value w) h = ap I.Value (same_value v w h)
same_item (I.Text s) (I.Text t) h = ap (λ (n : ℕ). I.Text (record { 0 = n })) (equal s.0 t.0 h)
same_item (I.Value v) (I.Text t) h = absurd (cc)
same_item (I.Text s) (I.Value w) h = absurd (cc)

not_empty : (i : Item) (w : List Item) → i ∷ w ≡ [] → ⊥
not_empty i w e = absurd (cc)

same_head : (i j : Item) (u v : List Item) → i ∷ u ≡ j ∷ v → i ≡ j
same_head i j u v e = cc

same_tail : (i j : Item) (u v : List Item) → i ∷ u ≡ j ∷ v → u ≡ v
same_tail i j u v e = cc

one_of : (a b : Bool) → (a || b) ≡ true → (a ≡ true) ⊎ (b ≡ true)
one_of true b h = inl refl
one_of false b h = inr h

left_holds : (a b : Bool) → a ≡ true → (a || b) ≡ true
left_holds true b h = refl
left_holds false b h = absurd (let z : false ≡ true = h in cc)

right_holds : (a b : Bool) → b ≡ true → (a || b) ≡ true
right_holds true b h = refl
right_holds false b h = h

-- the empty list as two lists
both_empty : (u v : List Item) → [] ≡ u ++ v → (u ≡ []) × (v ≡ [])
both_empty [] v e = (refl, sym e)
both_empty (i ∷ u) v e = absurd (not_empty i (u ++ v) (sym e))

none_left : (u v : List Item) → Interleaves u v [] → (u ≡ []) × (v ≡ [])
none_left [] [] Ended = (refl, refl)
none_left [] (j ∷ v) x = elim x [ ]
none_left (i ∷ u) v x = elim x [ ]

-- exactly the nullable patterns match the empty list
pub nullable_matches : (r : Pattern) → is_nullable r ≡ true → Matches r []
nullable_matches Never h = absurd (let z : false ≡ true = h in cc)
nullable_matches Nothing h = refl
nullable_matches (One i) h = absurd (let z : false ≡ true = h in cc)
nullable_matches Any h = absurd (let z : false ≡ true = h in cc)
nullable_matches (Either r s) h = by (one_of (is_nullable r) (is_nullable s) h) (nullable_matches r) (nullable_matches s)
  where
    by : (is_nullable r ≡ true) ⊎ (is_nullable s ≡ true) → (is_nullable r ≡ true → Matches r []) → (is_nullable s ≡ true → Matches s []) → Matches r [] ⊎ Matches s []
    by (inl a) f g = inl (f a)
    by (inr b) f g = inr (g b)
nullable_matches (Then r s) h = ([], [], refl, nullable_matches r (first (is_nullable r) (is_nullable s) h), nullable_matches s (second (is_nullable r) (is_nullable s) h))
nullable_matches (Both r s) h = ([], [], Ended, nullable_matches r (first (is_nullable r) (is_nullable s) h), nullable_matches s (second (is_nullable r) (is_nullable s) h))
nullable_matches (Repeated r) h = OfNone refl

pub matches_nullable : (r : Pattern) → Matches r [] → is_nullable r ≡ true
matches_nullable Never h = absurd h
matches_nullable Nothing h = refl
matches_nullable (One i) h = absurd (not_empty h.0 [] (sym h.1))
matches_nullable Any h = absurd (not_empty h.0 [] (sym h.1))
matches_nullable (Either r s) (inl h) = left_holds (is_nullable r) (is_nullable s) (matches_nullable r h)
matches_nullable (Either r s) (inr h) = right_holds (is_nullable r) (is_nullable s) (matches_nullable s h)
matches_nullable (Then r s) h =
    let e = both_empty h.0 h.1 h.2 in
    both (is_nullable r) (is_nullable s) (matches_nullable r (subst (λ (u : List Item). Matches r u) e.0 h.3)) (matches_nullable s (subst (λ (u : List Item). Matches s u) e.1 h.4))
matches_nullable (Both r s) h =
    let e = none_left h.0 h.1 h.2 in
    both (is_nullable r) (is_nullable s) (matches_nullable r (subst (λ (u : List Item). Matches r u) e.0 h.3)) (matches_nullable s (subst (λ (u : List Item). Matches s u) e.1 h.4))
matches_nullable (Repeated r) h = refl

-- patterns that are written alike are the same
same_pattern : (r s : Pattern) → are_same_patterns r s ≡ true → r ≡ s
same_pattern Never Never h = refl
same_pattern Nothing Nothing h = refl
same_pattern (One i) (One j) h = ap One (same_item i j h)
same_pattern Any Any h = refl
same_pattern (Either r s) (Either t u) h = ap (λ x. Either x s) (same_pattern r t (first (are_same_patterns r t) (are_same_patterns s u) h)) ∙ ap (Either t) (same_pattern s u (second (are_same_patterns r t) (are_same_patterns s u) h))
same_pattern (Then r s) (Then t u) h = ap (λ x. Then x s) (same_pattern r t (first (are_same_patterns r t) (are_same_patterns s u) h)) ∙ ap (Then t) (same_pattern s u (second (are_same_patterns r t) (are_same_patterns s u) h))
same_pattern (Both r s) (Both t u) h = ap (λ x. Both x s) (same_pattern r t (first (are_same_patterns r t) (are_same_patterns s u) h)) ∙ ap (Both t) (same_pattern s u (second (are_same_patterns r t) (are_same_patterns s u) h))
same_pattern (Repeated r) (Repeated t) h = ap Repeated (same_pattern r t h)
same_pattern _ _ h = absurd (let z : false ≡ true = h in cc)

-- the short forms match the same
module _ (w : List Item) where
  -- one more alternative at the end
  at_end_of : (r s : Pattern) → Matches r w ⊎ Matches s w → Matches (if are_same_patterns r s then s else Either s r) w
  at_end_of r s h = by (are_same_patterns r s) refl h
    where
      by : (b : Bool) → are_same_patterns r s ≡ b → Matches r w ⊎ Matches s w → Matches (if b then s else Either s r) w
      by true e (inl m) = subst (λ (x : Pattern). Matches x w) (same_pattern r s e) m
      by true e (inr m) = m
      by false e (inl m) = inr m
      by false e (inr m) = inl m

  of_end : (r s : Pattern) → Matches (if are_same_patterns r s then s else Either s r) w → Matches r w ⊎ Matches s w
  of_end r s h = by (are_same_patterns r s) h
    where
      by : (b : Bool) → Matches (if b then s else Either s r) w → Matches r w ⊎ Matches s w
      by true m = inr m
      by false (inl m) = inr m
      by false (inr m) = inl m

  into_one : (r s : Pattern) → Matches r w ⊎ Matches s w → Matches (with_one r s) w
  into_one r Never (inl m) = m
  into_one r Never (inr m) = absurd m
  into_one r (Either s t) h = by (are_same_patterns r s) refl h (into_one r t)
    where
      by : (b : Bool) → are_same_patterns r s ≡ b → Matches r w ⊎ (Matches s w ⊎ Matches t w) → (Matches r w ⊎ Matches t w → Matches (with_one r t) w) → Matches (if b then Either s t else Either s (with_one r t)) w
      by true e (inl m) f = inl (subst (λ (x : Pattern). Matches x w) (same_pattern r s e) m)
      by true e (inr m) f = m
      by false e (inl m) f = inr (f (inl m))
      by false e (inr (inl m)) f = inl m
      by false e (inr (inr m)) f = inr (f (inr m))
  into_one r Nothing h = at_end_of r Nothing h
  into_one r (One i) h = at_end_of r (One i) h
  into_one r Any h = at_end_of r Any h
  into_one r (Then s t) h = at_end_of r (Then s t) h
  into_one r (Both s t) h = at_end_of r (Both s t) h
  into_one r (Repeated s) h = at_end_of r (Repeated s) h

  of_one : (r s : Pattern) → Matches (with_one r s) w → Matches r w ⊎ Matches s w
  of_one r Never h = inl h
  of_one r (Either s t) h = by (are_same_patterns r s) h (of_one r t)
    where
      by : (b : Bool) → Matches (if b then Either s t else Either s (with_one r t)) w → (Matches (with_one r t) w → Matches r w ⊎ Matches t w) → Matches r w ⊎ (Matches s w ⊎ Matches t w)
      by true m f = inr m
      by false (inl m) f = inr (inl m)
      by false (inr m) f = behind (f m)
        where
          behind : Matches r w ⊎ Matches t w → Matches r w ⊎ (Matches s w ⊎ Matches t w)
          behind (inl x) = inl x
          behind (inr x) = inr (inr x)
  of_one r Nothing h = of_end r Nothing h
  of_one r (One i) h = of_end r (One i) h
  of_one r Any h = of_end r Any h
  of_one r (Then s t) h = of_end r (Then s t) h
  of_one r (Both s t) h = of_end r (Both s t) h
  of_one r (Repeated s) h = of_end r (Repeated s) h

  into_alternatives : (r s : Pattern) → Matches r w ⊎ Matches s w → Matches (alternatives r s) w
  into_alternatives Never s (inl m) = absurd m
  into_alternatives Never s (inr m) = m
  into_alternatives (Either r t) s (inl (inl m)) = into_alternatives r (alternatives t s) (inl m)
  into_alternatives (Either r t) s (inl (inr m)) = into_alternatives r (alternatives t s) (inr (into_alternatives t s (inl m)))
  into_alternatives (Either r t) s (inr m) = into_alternatives r (alternatives t s) (inr (into_alternatives t s (inr m)))
  into_alternatives Nothing s h = into_one Nothing s h
  into_alternatives (One i) s h = into_one (One i) s h
  into_alternatives Any s h = into_one Any s h
  into_alternatives (Then r t) s h = into_one (Then r t) s h
  into_alternatives (Both r t) s h = into_one (Both r t) s h
  into_alternatives (Repeated r) s h = into_one (Repeated r) s h

  of_alternatives : (r s : Pattern) → Matches (alternatives r s) w → Matches r w ⊎ Matches s w
  of_alternatives Never s h = inr h
  of_alternatives (Either r t) s h = by (of_alternatives r (alternatives t s) h) (of_alternatives t s)
    where
      by : Matches r w ⊎ Matches (alternatives t s) w → (Matches (alternatives t s) w → Matches t w ⊎ Matches s w) → (Matches r w ⊎ Matches t w) ⊎ Matches s w
      by (inl m) f = inl (inl m)
      by (inr m) f = behind (f m)
        where
          behind : Matches t w ⊎ Matches s w → (Matches r w ⊎ Matches t w) ⊎ Matches s w
          behind (inl x) = inl (inr x)
          behind (inr x) = inr x
  of_alternatives Nothing s h = of_one Nothing s h
  of_alternatives (One i) s h = of_one (One i) s h
  of_alternatives Any s h = of_one Any s h
  of_alternatives (Then r t) s h = of_one (Then r t) s h
  of_alternatives (Both r t) s h = of_one (Both r t) s h
  of_alternatives (Repeated r) s h = of_one (Repeated r) s h

  into_series : (r s : Pattern) → Matches (Then r s) w → Matches (in_series r s) w
  into_series Never s h = absurd h.3
  into_series Nothing s h = subst (λ (v : List Item). Matches s v) (sym (h.2 ∙ ap (λ (u : List Item). u ++ h.1) h.3)) h.4
  into_series (One i) s h = h
  into_series Any s h = h
  into_series (Either r t) s h = h
  into_series (Then r t) s h = h
  into_series (Both r t) s h = h
  into_series (Repeated r) s h = h

  of_series : (r s : Pattern) → Matches (in_series r s) w → Matches (Then r s) w
  of_series Never s h = absurd h
  of_series Nothing s h = ([], w, refl, refl, h)
  of_series (One i) s h = h
  of_series Any s h = h
  of_series (Either r t) s h = h
  of_series (Then r t) s h = h
  of_series (Both r t) s h = h
  of_series (Repeated r) s h = h

second_alone : (v w : List Item) → Interleaves [] v w → v ≡ w
second_alone [] [] Ended = refl
second_alone [] (i ∷ w) x = elim x [ ]
second_alone (j ∷ v) [] x = elim x [ ]
second_alone (j ∷ v) (i ∷ w) (FromSecond _ x) = ap (λ (u : List Item). i ∷ u) (second_alone v w x)

first_alone : (u w : List Item) → Interleaves u [] w → u ≡ w
first_alone [] [] Ended = refl
first_alone [] (i ∷ w) x = elim x [ ]
first_alone (j ∷ u) [] x = elim x [ ]
first_alone (j ∷ u) (i ∷ w) (FromFirst _ x) = ap (λ (v : List Item). i ∷ v) (first_alone u w x)

alone_second : (w : List Item) → Interleaves [] w w
alone_second [] = Ended
alone_second (i ∷ w) = FromSecond i (alone_second w)

alone_first : (w : List Item) → Interleaves w [] w
alone_first [] = Ended
alone_first (i ∷ w) = FromFirst i (alone_first w)

module _ (w : List Item) where
  into_beside : (r s : Pattern) → Matches (Both r s) w → Matches (beside r s) w
  into_beside r Never h = absurd h.4
  into_beside r Nothing h = subst (λ (u : List Item). Matches r u) (first_alone h.0 w (subst (λ (v : List Item). Interleaves h.0 v w) h.4 h.2)) h.3
  into_beside r (One i) h = h
  into_beside r Any h = h
  into_beside r (Either s t) h = h
  into_beside r (Then s t) h = h
  into_beside r (Both s t) h = h
  into_beside r (Repeated s) h = h

  of_beside : (r s : Pattern) → Matches (beside r s) w → Matches (Both r s) w
  of_beside r Never h = absurd h
  of_beside r Nothing h = (w, [], alone_first w, h, refl)
  of_beside r (One i) h = h
  of_beside r Any h = h
  of_beside r (Either s t) h = h
  of_beside r (Then s t) h = h
  of_beside r (Both s t) h = h
  of_beside r (Repeated s) h = h

  into_mixed : (r s : Pattern) → Matches (Both r s) w → Matches (mixed r s) w
  into_mixed Never s h = absurd h.3
  into_mixed Nothing s h = subst (λ (v : List Item). Matches s v) (second_alone h.1 w (subst (λ (u : List Item). Interleaves u h.1 w) h.3 h.2)) h.4
  into_mixed (One i) s h = into_beside (One i) s h
  into_mixed Any s h = into_beside Any s h
  into_mixed (Either r t) s h = into_beside (Either r t) s h
  into_mixed (Then r t) s h = into_beside (Then r t) s h
  into_mixed (Both r t) s h = into_beside (Both r t) s h
  into_mixed (Repeated r) s h = into_beside (Repeated r) s h

  of_mixed : (r s : Pattern) → Matches (mixed r s) w → Matches (Both r s) w
  of_mixed Never s h = absurd h
  of_mixed Nothing s h = ([], w, alone_second w, refl, h)
  of_mixed (One i) s h = of_beside (One i) s h
  of_mixed Any s h = of_beside Any s h
  of_mixed (Either r t) s h = of_beside (Either r t) s h
  of_mixed (Then r t) s h = of_beside (Then r t) s h
  of_mixed (Both r t) s h = of_beside (Both r t) s h
  of_mixed (Repeated r) s h = of_beside (Repeated r) s h

-- what is left matches w if and only if the pattern matches the item and w
pub left_matches : (r : Pattern) (j : Item) (w : List Item) → Matches (after_item r j) w → Matches r (j ∷ w)
left_matches Never j w h = absurd h
left_matches Nothing j w h = absurd h
left_matches (One i) j w h = by (are_alike i j) refl h
  where
    by : (b : Bool) → are_alike i j ≡ b → Matches (if b then Nothing else Never) w → (k : Item) × (j ∷ w ≡ k ∷ []) × (are_alike i k ≡ true)
    by true e h = (j, ap (λ (v : List Item). j ∷ v) h, e)
    by false e h = absurd h
left_matches Any j w h = (j, ap (λ (v : List Item). j ∷ v) h)
left_matches (Either r s) j w h = by (of_alternatives w (after_item r j) (after_item s j) h) (left_matches r j w) (left_matches s j w)
  where
    by : Matches (after_item r j) w ⊎ Matches (after_item s j) w → (Matches (after_item r j) w → Matches r (j ∷ w)) → (Matches (after_item s j) w → Matches s (j ∷ w)) → Matches r (j ∷ w) ⊎ Matches s (j ∷ w)
    by (inl m) f g = inl (f m)
    by (inr m) f g = inr (g m)
left_matches (Then r s) j w h = by (is_nullable r) refl h (left_matches r j) (left_matches s j w)
  where
    front : ((u : List Item) → Matches (after_item r j) u → Matches r (j ∷ u)) → Matches (in_series (after_item r j) s) w → Matches (Then r s) (j ∷ w)
    front f m = let h = of_series w (after_item r j) s m in (j ∷ h.0, h.1, ap (λ (v : List Item). j ∷ v) h.2, f h.0 h.3, h.4)

    by : (b : Bool) → is_nullable r ≡ b → Matches (if b then alternatives (in_series (after_item r j) s) (after_item s j) else in_series (after_item r j) s) w
        → ((u : List Item) → Matches (after_item r j) u → Matches r (j ∷ u)) → (Matches (after_item s j) w → Matches s (j ∷ w)) → Matches (Then r s) (j ∷ w)
    by true e h f g = each (of_alternatives w (in_series (after_item r j) s) (after_item s j) h)
      where
        each : Matches (in_series (after_item r j) s) w ⊎ Matches (after_item s j) w → Matches (Then r s) (j ∷ w)
        each (inl m) = front f m
        each (inr m) = ([], j ∷ w, refl, nullable_matches r e, g m)
    by false e h f g = front f h
left_matches (Both r s) j w h = by (of_alternatives w (mixed (after_item r j) s) (mixed r (after_item s j)) h) (left_matches r j) (left_matches s j)
  where
    by : Matches (mixed (after_item r j) s) w ⊎ Matches (mixed r (after_item s j)) w → ((u : List Item) → Matches (after_item r j) u → Matches r (j ∷ u)) → ((u : List Item) → Matches (after_item s j) u → Matches s (j ∷ u))
        → Matches (Both r s) (j ∷ w)
    by (inl m) f g = let h = of_mixed w (after_item r j) s m in (j ∷ h.0, h.1, FromFirst j h.2, f h.0 h.3, h.4)
    by (inr m) f g = let h = of_mixed w r (after_item s j) m in (h.0, j ∷ h.1, FromSecond j h.2, h.3, g h.1 h.4)
left_matches (Repeated r) j w m = let h = of_series w (after_item r j) (Repeated r) m in OfMore j h.0 h.1 (ap (λ (v : List Item). j ∷ v) h.2) (left_matches r j h.0 h.3) h.4

pub matches_left : (r : Pattern) (j : Item) (w : List Item) → Matches r (j ∷ w) → Matches (after_item r j) w
matches_left Never j w h = h
matches_left Nothing j w h = not_empty j w h
matches_left (One i) j w h =
    let head : h.0 ≡ j = sym (same_head j h.0 w [] h.1) in
    by (are_alike i j) (ap (are_alike i) (sym head) ∙ h.2) (same_tail j h.0 w [] h.1)
  where
    by : (b : Bool) → b ≡ true → w ≡ [] → Matches (if b then Nothing else Never) w
    by true e t = t
    by false e t = absurd (let z : false ≡ true = e in cc)
matches_left Any j w h = same_tail j h.0 w [] h.1
matches_left (Either r s) j w (inl h) = into_alternatives w (after_item r j) (after_item s j) (inl (matches_left r j w h))
matches_left (Either r s) j w (inr h) = into_alternatives w (after_item r j) (after_item s j) (inr (matches_left s j w h))
matches_left (Then r s) j w h = by h.0 h.2 h.3 (matches_left r j) (matches_left s j w)
  where
    within : (b : Bool) → Matches (Then (after_item r j) s) w → Matches (if b then alternatives (in_series (after_item r j) s) (after_item s j) else in_series (after_item r j) s) w
    within true h = into_alternatives w (in_series (after_item r j) s) (after_item s j) (inl (into_series w (after_item r j) s h))
    within false h = into_series w (after_item r j) s h

    behind : (b : Bool) → b ≡ true → Matches (after_item s j) w → Matches (if b then alternatives (in_series (after_item r j) s) (after_item s j) else in_series (after_item r j) s) w
    behind true e h = into_alternatives w (in_series (after_item r j) s) (after_item s j) (inr h)
    behind false e h = absurd (let z : false ≡ true = e in cc)

    by : (u : List Item) → j ∷ w ≡ u ++ h.1 → Matches r u → ((u : List Item) → Matches r (j ∷ u) → Matches (after_item r j) u) → (Matches s (j ∷ w) → Matches (after_item s j) w)
        → Matches (after_item (Then r s) j) w
    by [] e m f g = behind (is_nullable r) (matches_nullable r m) (g (subst (λ (v : List Item). Matches s v) (sym e) h.4))
    by (i ∷ u) e m f g =
        let head : i ≡ j = sym (same_head j i w (u ++ h.1) e) in
        within (is_nullable r) (u, h.1, same_tail j i w (u ++ h.1) e, f u (subst (λ (k : Item). Matches r (k ∷ u)) head m), h.4)
matches_left (Both r s) j w h = into_alternatives w (mixed (after_item r j) s) (mixed r (after_item s j)) (by h.0 h.1 h.2 h.3 h.4 (matches_left r j) (matches_left s j))
  where
    by : (u v : List Item) → Interleaves u v (j ∷ w) → Matches r u → Matches s v → ((u : List Item) → Matches r (j ∷ u) → Matches (after_item r j) u) → ((u : List Item) → Matches s (j ∷ u) → Matches (after_item s j) u)
        → Matches (mixed (after_item r j) s) w ⊎ Matches (mixed r (after_item s j)) w
    by (k ∷ u) v (FromFirst i x) m n f g = inl (into_mixed w (after_item r j) s (u, v, x, f u m, n))
    by u (k ∷ v) (FromSecond i x) m n f g = inr (into_mixed w r (after_item s j) (u, v, x, m, g v n))
matches_left (Repeated r) j w h = into_series w (after_item r j) (Repeated r) (by h (matches_left r j))
  where
    by : IsMadeOf (Matches r) (j ∷ w) → ((u : List Item) → Matches r (j ∷ u) → Matches (after_item r j) u) → Matches (Then (after_item r j) (Repeated r)) w
    by (OfNone e) f = absurd (not_empty j w e)
    by (OfMore i u v e m rest) f =
        let head : i ≡ j = sym (same_head j i w (u ++ v) e) in
        (u, v, same_tail j i w (u ++ v) e, f u (subst (λ (k : Item). Matches r (k ∷ u)) head m), rest)

-- the same for a list of items
pub left_of_matches : (r : Pattern) (w v : List Item) → Matches (after_items r w) v → Matches r (w ++ v)
left_of_matches r [] v h = h
left_of_matches r (i ∷ w) v h = left_matches r i (w ++ v) (left_of_matches (after_item r i) w v h)

pub matches_left_of : (r : Pattern) (w v : List Item) → Matches r (w ++ v) → Matches (after_items r w) v
matches_left_of r [] v h = h
matches_left_of r (i ∷ w) v h = matches_left_of (after_item r i) w v (matches_left r i (w ++ v) h)

-- a pattern is void if and only if it matches no list
pub void_matches_none : (r : Pattern) (w : List Item) → is_void r ≡ true → ¬ (Matches r w)
void_matches_none Never w e h = h
void_matches_none Nothing w e h = absurd (let z : false ≡ true = e in cc)
void_matches_none (One i) w e h = absurd (let z : false ≡ true = e in cc)
void_matches_none Any w e h = absurd (let z : false ≡ true = e in cc)
void_matches_none (Either r s) w e (inl h) = void_matches_none r w (first (is_void r) (is_void s) e) h
void_matches_none (Either r s) w e (inr h) = void_matches_none s w (second (is_void r) (is_void s) e) h
void_matches_none (Then r s) w e h = by (one_of (is_void r) (is_void s) e) (void_matches_none r h.0) (void_matches_none s h.1)
  where
    by : (is_void r ≡ true) ⊎ (is_void s ≡ true) → (is_void r ≡ true → ¬ (Matches r h.0)) → (is_void s ≡ true → ¬ (Matches s h.1)) → ⊥
    by (inl a) f g = f a h.3
    by (inr b) f g = g b h.4
void_matches_none (Both r s) w e h = by (one_of (is_void r) (is_void s) e) (void_matches_none r h.0) (void_matches_none s h.1)
  where
    by : (is_void r ≡ true) ⊎ (is_void s ≡ true) → (is_void r ≡ true → ¬ (Matches r h.0)) → (is_void s ≡ true → ¬ (Matches s h.1)) → ⊥
    by (inl a) f g = f a h.3
    by (inr b) f g = g b h.4
void_matches_none (Repeated r) w e h = absurd (let z : false ≡ true = e in cc)

one_false : (a b : Bool) → (a && b) ≡ false → (a ≡ false) ⊎ (b ≡ false)
one_false true b h = inr h
one_false false b h = inl refl

both_false : (a b : Bool) → (a || b) ≡ false → (a ≡ false) × (b ≡ false)
both_false true b h = absurd (let z : true ≡ false = h in cc)
both_false false b h = (refl, h)

-- one list after the other is an interleaving
in_turn : (u v : List Item) → Interleaves u v (u ++ v)
in_turn [] [] = Ended
in_turn [] (i ∷ v) = FromSecond i (in_turn [] v)
in_turn (i ∷ u) v = FromFirst i (in_turn u v)

pub some_match : (r : Pattern) → is_void r ≡ false → (w : List Item) × Matches r w
some_match Never e = absurd (let z : true ≡ false = e in cc)
some_match Nothing e = ([], refl)
some_match (One i) e = (i ∷ [], (i, refl, item_itself (nameless i)))
some_match Any e = (I.Value V.Nil ∷ [], (I.Value V.Nil, refl))
some_match (Either r s) e = by (one_false (is_void r) (is_void s) e) (some_match r) (some_match s)
  where
    by : (is_void r ≡ false) ⊎ (is_void s ≡ false) → (is_void r ≡ false → (w : List Item) × Matches r w) → (is_void s ≡ false → (w : List Item) × Matches s w) → (w : List Item) × Matches (Either r s) w
    by (inl a) f g = let x = f a in (x.0, inl x.1)
    by (inr b) f g = let x = g b in (x.0, inr x.1)
some_match (Then r s) e =
    let b = both_false (is_void r) (is_void s) e in
    let x = some_match r b.0 in
    let y = some_match s b.1 in
    (x.0 ++ y.0, (x.0, y.0, refl, x.1, y.1))
some_match (Both r s) e =
    let b = both_false (is_void r) (is_void s) e in
    let x = some_match r b.0 in
    let y = some_match s b.1 in
    (x.0 ++ y.0, (x.0, y.0, in_turn x.0 y.0, x.1, y.1))
some_match (Repeated r) e = ([], OfNone refl)

-- what is left is not void: the items begin a list that the pattern matches; and the other way round
pub begins_one : (r : Pattern) (w : List Item) → is_void (after_items r w) ≡ false → BeginsOne r w
begins_one r w e = let x = some_match (after_items r w) e in (x.0, left_of_matches r w x.0 x.1)

pub begins_none : (r : Pattern) (w : List Item) → is_void (after_items r w) ≡ true → ¬ (BeginsOne r w)
begins_none r w e b = void_matches_none (after_items r w) b.0 e (matches_left_of r w b.0 b.1)

-- what is left is nullable: the pattern matches the items; and the other way round
pub matches_whole : (r : Pattern) (w : List Item) → is_nullable (after_items r w) ≡ true → Matches r w
matches_whole r w e = subst (λ (v : List Item). Matches r v) (append-nil w) (left_of_matches r w [] (nullable_matches (after_items r w) e))

pub whole_is_nullable : (r : Pattern) (w : List Item) → Matches r w → is_nullable (after_items r w) ≡ true
whole_is_nullable r w h = matches_nullable (after_items r w) (matches_left_of r w [] (subst (λ (v : List Item). Matches r v) (sym (append-nil w)) h))

-- the names of objects do not matter: two items that are one but for names
alike_after : (i j k : Item) → nameless j ≡ nameless k → are_alike i j ≡ are_alike i k
alike_after i j k e = ap (is_same_item (nameless i)) e

pub after_alike : (r : Pattern) (j k : Item) → nameless j ≡ nameless k → after_item r j ≡ after_item r k
after_alike Never j k e = refl
after_alike Nothing j k e = refl
after_alike (One i) j k e = ap (λ b. if b then Nothing else Never) (alike_after i j k e)
after_alike Any j k e = refl
after_alike (Either r s) j k e = ap (λ x. alternatives x (after_item s j)) (after_alike r j k e) ∙ ap (alternatives (after_item r k)) (after_alike s j k e)
after_alike (Then r s) j k e = by (is_nullable r) (after_alike r j k e) (after_alike s j k e)
  where
    by : (b : Bool) → after_item r j ≡ after_item r k → after_item s j ≡ after_item s k
        → (if b then alternatives (in_series (after_item r j) s) (after_item s j) else in_series (after_item r j) s)
        ≡ (if b then alternatives (in_series (after_item r k) s) (after_item s k) else in_series (after_item r k) s)
    by true x y = ap (λ z. alternatives (in_series z s) (after_item s j)) x ∙ ap (alternatives (in_series (after_item r k) s)) y
    by false x y = ap (λ z. in_series z s) x
after_alike (Both r s) j k e = ap (λ x. alternatives (mixed x s) (mixed r (after_item s j))) (after_alike r j k e) ∙ ap (λ x. alternatives (mixed (after_item r k) s) (mixed r x)) (after_alike s j k e)
after_alike (Repeated r) j k e = ap (λ x. in_series x (Repeated r)) (after_alike r j k e)

-- a pattern is written as itself
pub pattern_itself : (r : Pattern) → are_same_patterns r r ≡ true
pattern_itself Never = refl
pattern_itself Nothing = refl
pattern_itself (One i) = item_itself i
pattern_itself Any = refl
pattern_itself (Either r s) = both (are_same_patterns r r) (are_same_patterns s s) (pattern_itself r) (pattern_itself s)
pattern_itself (Then r s) = both (are_same_patterns r r) (are_same_patterns s s) (pattern_itself r) (pattern_itself s)
pattern_itself (Both r s) = both (are_same_patterns r r) (are_same_patterns s s) (pattern_itself r) (pattern_itself s)
pattern_itself (Repeated r) = pattern_itself r
