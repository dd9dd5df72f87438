-- The earliest of the messages that are wanted is found among the front messages of the shared queues.
use Rattle.std.proofs.Common.{◌≡◌, ℕ, ◌+◌, ◌<◌, ◌≤◌, ◌==◌, ◌&&◌, ◌||◌, ltb, cond, Bool, true, false, ◌⊎◌, inl, inr, List, [], ◌∷◌, length, get_or, take, Option, Some, None, refl, sym, ap, ◌∙◌, subst, arith}
use Rattle.std.proofs.lemmas.Bool.{cases_eq, ltb-true, ltb-false, eqb-true, eq-eqb, and_parts, and_from, or_cases}
use Rattle.std.proofs.lemmas.List.Folds.{list_any_more}
use Rattle.run_types.specs.Tables.{Each}
use Rattle.run_types.specs.declared.types.NameId.{NameId}
use Rattle.slot_queues.specs.declared.lanes.Stamped.{Stamped}
use Rattle.slot_queues.specs.Lanes.{shared, home_of, has_key, Follows, IsChain, IsNear, IsFound, Keyed, Named, found_at, better_of}
use Rattle.slot_queues.specs.Mail.{is_named}
use Rattle.slot_queues.proofs.Joined.{each_map, each_two}

-- the messages with a key in k queues from `home` on
abbrev pub Within : ℕ → ℕ → ℕ → ℕ → ℕ → Stamped → Type 0
Within home to name k q x = (has_key to name x ≡ true) × (home ≤ q) × (q < home + k)

module _ (lists : List (List Stamped)) (n : ℕ) where
  abbrev Found : (ℕ → Stamped → Type 0) → Option (ℕ × ℕ) → Type 0
  Found = IsFound lists n

  pub best_both : (D E : ℕ → Stamped → Type 0) (r s : Option (ℕ × ℕ)) → Found D r → Found E s → Found (λ q x. D q x ⊎ E q x) (better_of r s)
  best_both D E None None h k = record {
    none = λ q less. each_two (λ x. D q x → ⊥) (λ x. E q x → ⊥) (λ x. (D q x ⊎ E q x) → ⊥) (λ x f g w. elim w [ inl d ↦ f d | inr e ↦ g e ]) (get_or lists q []) (h.none q less) (k.none q less);
  }
  best_both D E None (Some b) h k = record {
    first = k.first;
    rest = k.rest;
    within = k.within;
    is = k.is;
    stamp = k.stamp;
    wanted = inr k.wanted;
    least = λ q less. each_two (λ x. D q x → ⊥) (λ x. E q x → b.1 ≤ x.stamp) (λ x. (D q x ⊎ E q x) → b.1 ≤ x.stamp) (λ x f g w. elim w [ inl d ↦ absurd (f d) | inr e ↦ g e ]) (get_or lists q []) (h.none q less) (k.least q less);
  }
  best_both D E (Some a) None h k = record {
    first = h.first;
    rest = h.rest;
    within = h.within;
    is = h.is;
    stamp = h.stamp;
    wanted = inl h.wanted;
    least = λ q less. each_two (λ x. D q x → a.1 ≤ x.stamp) (λ x. E q x → ⊥) (λ x. (D q x ⊎ E q x) → a.1 ≤ x.stamp) (λ x f g w. elim w [ inl d ↦ f d | inr e ↦ absurd (g e) ]) (get_or lists q []) (h.least q less) (k.none q less);
  }
  best_both D E (Some a) (Some b) h k = by (ltb b.1 a.1) refl
    where
      by : (c : Bool) → ltb b.1 a.1 ≡ c → Found (λ q x. D q x ⊎ E q x) (cond c (Some b) (Some a))
      by true e = let below : b.1 < a.1 = ltb-true b.1 a.1 e in record {
        first = k.first;
        rest = k.rest;
        within = k.within;
        is = k.is;
        stamp = k.stamp;
        wanted = inr k.wanted;
        least = λ q less. each_two (λ x. D q x → a.1 ≤ x.stamp) (λ x. E q x → b.1 ≤ x.stamp) (λ x. (D q x ⊎ E q x) → b.1 ≤ x.stamp)
            (λ x f g w. elim w [ inl d ↦ (let le : a.1 ≤ x.stamp = f d in omega (arith, le, below)) | inr e ↦ g e ]) (get_or lists q []) (h.least q less) (k.least q less);
      }
      by false e = let below : a.1 ≤ b.1 = ltb-false b.1 a.1 e in record {
        first = h.first;
        rest = h.rest;
        within = h.within;
        is = h.is;
        stamp = h.stamp;
        wanted = inl h.wanted;
        least = λ q less. each_two (λ x. D q x → a.1 ≤ x.stamp) (λ x. E q x → b.1 ≤ x.stamp) (λ x. (D q x ⊎ E q x) → a.1 ≤ x.stamp)
            (λ x f g w. elim w [ inl d ↦ f d | inr e ↦ (let le : b.1 ≤ x.stamp = g e in omega (arith, le, below)) ]) (get_or lists q []) (h.least q less) (k.least q less);
      }

  -- what is wanted may be said in another way
  pub best_same : (D E : ℕ → Stamped → Type 0) (r : Option (ℕ × ℕ)) → ((q : ℕ) (x : Stamped) → D q x → E q x) → ((q : ℕ) → q < n → Each (λ x. E q x → D q x) (get_or lists q [])) → Found D r → Found E r
  best_same D E None to from h = record {
    none = λ q less. each_two (λ x. E q x → D q x) (λ x. D q x → ⊥) (λ x. E q x → ⊥) (λ x f g e. g (f e)) (get_or lists q []) (from q less) (h.none q less);
  }
  best_same D E (Some b) to from h = record {
    first = h.first;
    rest = h.rest;
    within = h.within;
    is = h.is;
    stamp = h.stamp;
    wanted = to b.0 h.first h.wanted;
    least = λ q less. each_two (λ x. E q x → D q x) (λ x. D q x → b.1 ≤ x.stamp) (λ x. E q x → b.1 ≤ x.stamp) (λ x f g e. g (f e)) (get_or lists q []) (from q less) (h.least q less);
  }

  each_all : {X : Type 0} (P : X → Type 0) → ((x : X) → P x) → (xs : List X) → Each P xs
  each_all P f [] = tt
  each_all P f (x ∷ xs) = (f x, each_all P f xs)

  each_if : {X : Type 0} (A : Type 0) (P : X → Type 0) (xs : List X) → (A → Each P xs) → Each (λ x. A → P x) xs
  each_if A P [] h = tt
  each_if A P (x ∷ xs) h = (λ a. (h a).0, each_if A P xs (λ a. (h a).1))

  -- a message behind another in a shared queue has its key
  same_key : (to name : ℕ) (x y : Stamped) → Follows x y → has_key to name y ≡ has_key to name x
  same_key to name x y f = ap (λ k. (k == to) && (y.message.method.0 == name)) f.0 ∙ ap (λ k. (x.to == to) && (k == name)) f.1

  abbrev Here : ℕ → ℕ → ℕ → ℕ → Stamped → Type 0
  Here q to name r x = (r ≡ q) × (has_key to name x ≡ true)

  found_in : (q to name : ℕ) (xs : List Stamped) → q < n → get_or lists q [] ≡ xs → IsChain xs → Found (Here q to name) (found_at xs q to name)
  found_in q to name [] less is chain = record {
    none = λ r below. each_map (λ x. (r ≡ q) → (has_key to name x ≡ true) → ⊥) (λ x. Here q to name r x → ⊥) (λ x f w. f w.0 w.1) (get_or lists r [])
        (each_if (r ≡ q) (λ x. (has_key to name x ≡ true) → ⊥) (get_or lists r []) (λ e. subst (λ l. Each (λ x. (has_key to name x ≡ true) → ⊥) l) (sym is ∙ ap (λ j. get_or lists j []) (sym e)) tt));
  }
  found_in q to name (x ∷ xs) less is chain = by (has_key to name x) refl
    where
      by : (c : Bool) → has_key to name x ≡ c → Found (Here q to name) (cond c (Some (q, x.stamp)) None)
      by true e = record {
        first = x;
        rest = xs;
        within = less;
        is = is;
        stamp = refl;
        wanted = (refl, e);
        least = λ r below. each_map (λ y. (r ≡ q) → x.stamp ≤ y.stamp) (λ y. Here q to name r y → x.stamp ≤ y.stamp) (λ y f w. f w.0) (get_or lists r [])
            (each_if (r ≡ q) (λ y. x.stamp ≤ y.stamp) (get_or lists r []) (λ e. subst (λ l. Each (λ y. x.stamp ≤ y.stamp) l) (sym is ∙ ap (λ j. get_or lists j []) (sym e))
            (omega arith, each_map (Follows x) (λ y. x.stamp ≤ y.stamp) (λ y f. let h = f.2 in omega (arith, h)) xs chain.0)));
      }
      by false e = record {
        none = λ r below. each_map (λ y. (r ≡ q) → (has_key to name y ≡ true) → ⊥) (λ y. Here q to name r y → ⊥) (λ y f w. f w.0 w.1) (get_or lists r [])
            (each_if (r ≡ q) (λ y. (has_key to name y ≡ true) → ⊥) (get_or lists r []) (λ s. subst (λ l. Each (λ y. (has_key to name y ≡ true) → ⊥) l) (sym is ∙ ap (λ j. get_or lists j []) (sym s))
            (λ t. cc, each_map (Follows x) (λ y. (has_key to name y ≡ true) → ⊥) (λ y f t. let s = same_key to name x y f in cc) xs chain.0)));
      }

  -- one more queue
  pub near_more : ((q : ℕ) → q < n → IsChain (get_or lists q [])) → (home to name k : ℕ) (r : Option (ℕ × ℕ)) → home + k < n → Found (Within home to name k) r
      → Found (Within home to name (k + 1)) (better_of r (found_at (get_or lists (home + k) []) (home + k) to name))
  near_more chains home to name k r less h =
      let q = home + k in
      let one = found_at (get_or lists q []) q to name in
      best_same (λ j x. Within home to name k j x ⊎ Here q to name j x) (Within home to name (k + 1)) (better_of r one)
      (λ j x w. elim w [ inl d ↦ (let b = d.2 in (d.0, d.1, omega (arith, b))) | inr e ↦ (let s = e.0 in (e.1, omega (arith, s), omega (arith, s))) ])
      (λ j below. each_all (λ x. Within home to name (k + 1) j x → (Within home to name k j x ⊎ Here q to name j x)) (λ x w. by j x w (cases j w.1 w.2)) (get_or lists j []))
      (best_both (Within home to name k) (Here q to name) r one h (found_in q to name (get_or lists q []) less refl (chains q less)))
    where
      cases : (j : ℕ) → home ≤ j → j < home + (k + 1) → (j < home + k) ⊎ (j ≡ home + k)
      cases j a b = elim (cases_eq j (home + k)) [ inl e ↦ inr e | inr ne ↦ inl (omega (arith, ne, b)) ]

      by : (j : ℕ) (x : Stamped) → Within home to name (k + 1) j x → (j < home + k) ⊎ (j ≡ home + k) → (Within home to name k j x ⊎ Here (home + k) to name j x)
      by j x w (inl a) = inl (w.0, w.1, a)
      by j x w (inr e) = inr (e, w.0)

  or_second : (x y : Bool) → y ≡ true → (x || y) ≡ true
  or_second true y e = refl
  or_second false y e = e

  -- one more name
  pub named_more : (to : ℕ) (names : List NameId) (k : ℕ) (d : NameId) (r s : Option (ℕ × ℕ)) → k < length names → Found (Named to (take k names)) r → Found (Keyed to (get_or names k d).0) s
      → Found (Named to (take (k + 1) names)) (better_of r s)
  named_more to names k d r s less h one =
      best_same (λ q x. Named to (take k names) q x ⊎ Keyed to name q x) (Named to (take (k + 1) names)) (better_of r s)
      (λ q x w. elim w [
        | inl g ↦ (g.0, more x.message.method ∙ ap (λ b. b || (name == x.message.method.0)) g.1)
        | inr e ↦ (let parts = and_parts (x.to == to) (x.message.method.0 == name) e in (
          eqb-true x.to to parts.0,
          more x.message.method
              ∙ or_second (is_named (take k names) x.message.method) (name == x.message.method.0) (eq-eqb name x.message.method.0 (sym (eqb-true x.message.method.0 name parts.1))),
        ))
      ])
      (λ q below. each_all (λ x. Named to (take (k + 1) names) q x → (Named to (take k names) q x ⊎ Keyed to name q x))
      (λ x w. by q x w (or_cases (is_named (take k names) x.message.method) (name == x.message.method.0) (sym (more x.message.method) ∙ w.1))) (get_or lists q []))
      (best_both (Named to (take k names)) (Keyed to name) r s h one)
    where
      name : ℕ
      name = (get_or names k d).0

      more : (m : NameId) → is_named (take (k + 1) names) m ≡ (is_named (take k names) m || (name == m.0))
      more m = list_any_more (λ (x : NameId). x.0 == m.0) names k d less

      by : (q : ℕ) (x : Stamped) → Named to (take (k + 1) names) q x → (is_named (take k names) x.message.method ≡ true) ⊎ ((name == x.message.method.0) ≡ true) → Named to (take k names) q x ⊎ Keyed to name q x
      by q x w (inl a) = inl (w.0, a)
      by q x w (inr e) = inr (and_from (x.to == to) (x.message.method.0 == name) (eq-eqb x.to to w.0) (eq-eqb x.message.method.0 name (sym (eqb-true name x.message.method.0 e))))

-- the messages with a key are near its home
pub keyed_near : (lists : List (List Stamped)) (cells next home to name : ℕ) (r : Option (ℕ × ℕ)) → ((q : ℕ) → q < shared cells → Each (IsNear cells next q) (get_or lists q [])) → home ≡ home_of cells to name
    → IsFound lists (shared cells) (Within home to name 8) r → IsFound lists (shared cells) (Keyed to name) r
keyed_near lists cells next home to name r near there h =
    best_same lists (shared cells) (Within home to name 8) (Keyed to name) r (λ q x w. w.0)
    (λ q less. each_map (IsNear cells next q) (λ x. Keyed to name q x → Within home to name 8 q x)
    (λ x m t. let e = same_home x t in (t, subst (λ j. j ≤ q) e m.0, subst (λ j. q < j + 8) e m.1)) (get_or lists q []) (near q less)) h
  where
    same_home : (x : Stamped) → has_key to name x ≡ true → home_of cells x.to x.message.method.0 ≡ home
    same_home x t =
        let parts = and_parts (x.to == to) (x.message.method.0 == name) t in
        ap (λ j. home_of cells j x.message.method.0) (eqb-true x.to to parts.0) ∙ ap (λ j. home_of cells to j) (eqb-true x.message.method.0 name parts.1) ∙ sym there
