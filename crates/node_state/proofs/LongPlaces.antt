-- The long answers of the places before one, and of the places before the next.
use Rattle.std.proofs.Common.{◌≡◌, ◌⊎◌, ℕ, zero, suc, ◌+◌, ◌<◌, ◌≤◌, inl, inr, List, [], ◌∷◌, ◌++◌, Option, Some, None, length, slice_get, refl, sym, ap, ◌∙◌, subst, arith}
use Rattle.std.proofs.lemmas.Bool.{cases_lt}
use Rattle.std.specs.declared.cmp.Ordering.TheVariants.{Less}
use Rattle.run_types.specs.declared.types.NameId.{NameId}
use Rattle.run_types.specs.Tables.{Each}
use Rattle.run_types.proofs.Laws.{each_append, each_map}
use Rattle.code_semantics.specs.declared.unit.Unit.{Unit as Code}
use Rattle.node_state.specs.declared.long.AnswerPlace.{AnswerPlace}
use Rattle.node_state.specs.declared.long.LongAnswer.{LongAnswer}
use Rattle.node_state.specs.LongAnswers.{names_at, HasFewNames, place_order, IsLongAt, IsListed, IsLongOf, IsInOrder, AreLongOf, AreLongBefore}
use Rattle.node_state.proofs.PlaceOrder.{IsBefore, IsMethodBefore, before, less}

-- ---- lists

in_order_push : (answers : List LongAnswer) (a : LongAnswer) → IsInOrder answers → Each (λ b. place_order b.place a.place ≡ Less) answers → IsInOrder (answers ++ a ∷ [])
in_order_push [] a h g = (tt, tt)
in_order_push (b ∷ answers) a h g = (each_append (λ (x : LongAnswer). place_order b.place x.place ≡ Less) answers a h.0 g.0, in_order_push answers a h.1 g.1)

listed_still : (answers : List LongAnswer) (a : LongAnswer) (q : AnswerPlace) → IsListed answers q → IsListed (answers ++ a ∷ []) q
listed_still answers a q h = (h.0, h.1, at answers h.0 h.2, h.3)
  where
    at : (xs : List LongAnswer) (i : ℕ) → slice_get xs i ≡ Some h.1 → slice_get (xs ++ a ∷ []) i ≡ Some h.1
    at [] i e = absurd (cc)
    at (x ∷ xs) zero e = e
    at (x ∷ xs) (suc i) e = at xs i e

listed_last : (answers : List LongAnswer) (a : LongAnswer) → IsListed (answers ++ a ∷ []) a.place
listed_last answers a = (length answers, a, at answers, refl)
  where
    at : (xs : List LongAnswer) → slice_get (xs ++ a ∷ []) (length xs) ≡ Some a
    at [] = refl
    at (x ∷ xs) = at xs

-- ---- the place of the next alternative

module _ (p : AnswerPlace) where
  at_next : IsBefore p (record p { alt = p.alt + 1 })
  at_next = inr (refl, inr (refl, inr (refl, omega arith)))

  next_after : (q : AnswerPlace) → IsBefore q p → IsBefore q (record p { alt = p.alt + 1 })
  next_after q (inl l) = inl l
  next_after q (inr (s, inl l)) = inr (s, inl l)
  next_after q (inr (s, inr (t, inl l))) = inr (s, inr (t, inl l))
  next_after q (inr (s, inr (t, inr (e, l)))) = inr (s, inr (t, inr (e, omega arith)))

  -- what is before it is before this one, or it is this one
  next_is : (P : AnswerPlace → Type 0) (q : AnswerPlace) → ((r : AnswerPlace) → IsBefore r p → P r) → P p → IsBefore q (record p { alt = p.alt + 1 }) → P q
  next_is P q f here (inl l) = f q (inl l)
  next_is P q f here (inr (s, inl l)) = f q (inr (s, inl l))
  next_is P q f here (inr (s, inr (t, inl l))) = f q (inr (s, inr (t, inl l)))
  next_is P q f here (inr (s, inr (t, inr (e, l)))) = by (cases_lt q.alt p.alt)
    where
      by : (q.alt < p.alt) ⊎ (p.alt ≤ q.alt) → P q
      by (inl k) = f q (inr (s, inr (t, inr (e, k))))
      by (inr k) = let same : q.alt ≡ p.alt = omega arith in subst P (λ i. record { class = sym s i; method = sym t i; at = sym e i; alt = sym same i }) here

-- ---- from place to place

module _ (u : Code) where
  -- the names of a long answer
  pub names_of_long : (p : AnswerPlace) (names : List NameId) → names_at u p ≡ Some names → IsLongAt u p → (64 < length names) × HasFewNames names
  names_of_long p names at long = let those : long.0 ≡ names = (let s : Some long.0 ≡ Some names = sym long.1 ∙ at in cc) in (subst (λ (ns : List NameId). 64 < length ns) those long.2, subst HasFewNames those long.3)

  -- no long answer is at p, or between p and r
  pub record NoneBetween (p r : AnswerPlace) : Type 0 where
    pub after : (q : AnswerPlace) → IsBefore q p → IsBefore q r
    pub none : (q : AnswerPlace) → IsBefore q r → IsLongAt u q → IsBefore q p

  pub further : (p r : AnswerPlace) (answers : List LongAnswer) → NoneBetween p r → AreLongBefore u p answers → AreLongBefore u r answers
  further p r answers n h = record {
    each = h.each;
    before = each_map (λ (a : LongAnswer). place_order a.place p ≡ Less) (λ (a : LongAnswer). place_order a.place r ≡ Less) (λ a l. less a.place r (n.after a.place (before a.place p l))) answers h.before;
    all = λ q l long. h.all q (less q p (n.none q (before q r l) long)) long;
    in_order = h.in_order;
  }

  -- none is there
  pub none_at : (p : AnswerPlace) → (IsLongAt u p → ⊥) → NoneBetween p (record p { alt = p.alt + 1 })
  none_at p never = record { after = next_after p; none = λ q l long. next_is p (λ (r : AnswerPlace). IsLongAt u r → IsBefore r p) q (λ r b h. b) (λ h. absurd (never h)) l long }

  -- one is there
  pub added : (p : AnswerPlace) (answers : List LongAnswer) (a : LongAnswer) → a.place ≡ p → IsLongOf u a → AreLongBefore u p answers → AreLongBefore u (record p { alt = p.alt + 1 }) (answers ++ a ∷ [])
  added p answers a is right h =
      let next : AnswerPlace = record p { alt = p.alt + 1 } in
      let still = each_map (λ (b : LongAnswer). place_order b.place p ≡ Less) (λ (b : LongAnswer). place_order b.place next ≡ Less) (λ b l. less b.place next (next_after p b.place (before b.place p l))) answers h.before in
      record {
        each = each_append (IsLongOf u) answers a h.each right;
        before = each_append (λ (b : LongAnswer). place_order b.place next ≡ Less) answers a still (subst (λ (r : AnswerPlace). place_order r next ≡ Less) (sym is) (less p next (at_next p)));
        all = λ q l. next_is p (λ (r : AnswerPlace). IsLongAt u r → IsListed (answers ++ a ∷ []) r) q (λ r b long. listed_still answers a r (h.all r (less r p b) long)) (λ long. subst (IsListed (answers ++ a ∷ [])) is (listed_last answers a)) (before q next l);
        in_order = in_order_push answers a h.in_order (subst (λ (r : AnswerPlace). Each (λ (b : LongAnswer). place_order b.place r ≡ Less) answers) (sym is) h.before);
      }

  -- the alternatives from here on are of no long answer, and the next place is that of the next instruction
  pub past_instr : (p : AnswerPlace) → ((q : AnswerPlace) → q.class ≡ p.class → q.method ≡ p.method → q.at ≡ p.at → p.alt ≤ q.alt → IsLongAt u q → ⊥) → NoneBetween p (record p { at = p.at + 1; alt = 0 })
  past_instr p never = record { after = after; none = none }
    where
      after : (q : AnswerPlace) → IsBefore q p → IsBefore q (record p { at = p.at + 1; alt = 0 })
      after q (inl l) = inl l
      after q (inr (s, inl l)) = inr (s, inl l)
      after q (inr (s, inr (t, inl l))) = inr (s, inr (t, inl (omega arith)))
      after q (inr (s, inr (t, inr (e, l)))) = inr (s, inr (t, inl (omega arith)))

      none : (q : AnswerPlace) → IsBefore q (record p { at = p.at + 1; alt = 0 }) → IsLongAt u q → IsBefore q p
      none q (inl l) long = inl l
      none q (inr (s, inl l)) long = inr (s, inl l)
      none q (inr (s, inr (t, inl l))) long = by (cases_lt q.at p.at) (cases_lt q.alt p.alt)
        where
          by : (q.at < p.at) ⊎ (p.at ≤ q.at) → (q.alt < p.alt) ⊎ (p.alt ≤ q.alt) → IsBefore q p
          by (inl k) j = inr (s, inr (t, inl k))
          by (inr k) (inl j) = inr (s, inr (t, inr (omega arith, j)))
          by (inr k) (inr j) = let same : q.at ≡ p.at = omega arith in absurd (never q s t same j long)
      none q (inr (s, inr (t, inr (e, l)))) long = absurd (omega arith)

  -- the instructions from n on are of no long answer, and the next place is in the first method
  pub past_body : (c n : ℕ) → ((q : AnswerPlace) → q.class ≡ c → q.method ≡ None → n ≤ q.at → IsLongAt u q → ⊥)
      → NoneBetween (record { class = c; method = None; at = n; alt = 0 }) (record { class = c; method = Some 0; at = 0; alt = 0 })
  past_body c n never = record { after = after; none = none }
    where
      after : (q : AnswerPlace) → IsBefore q (record { class = c; method = None; at = n; alt = 0 }) → IsBefore q (record { class = c; method = Some 0; at = 0; alt = 0 })
      after q (inl l) = inl l
      after q (inr (s, inl l)) = absurd (by q.method l)
        where
          by : (m : Option ℕ) → IsMethodBefore m None → ⊥
          by None h = h
          by (Some m) h = h
      after q (inr (s, inr (t, l))) = inr (s, inl (subst (λ (m : Option ℕ). IsMethodBefore m (Some 0)) (sym t) tt))

      none : (q : AnswerPlace) → IsBefore q (record { class = c; method = Some 0; at = 0; alt = 0 }) → IsLongAt u q → IsBefore q (record { class = c; method = None; at = n; alt = 0 })
      none q (inl l) long = inl l
      none q (inr (s, inl l)) long = by q.method refl l (cases_lt q.at n)
        where
          by : (m : Option ℕ) → q.method ≡ m → IsMethodBefore m (Some 0) → (q.at < n) ⊎ (n ≤ q.at) → IsBefore q (record { class = c; method = None; at = n; alt = 0 })
          by None t h (inl k) = inr (s, inr (t, inl k))
          by None t h (inr k) = absurd (never q s t k long)
          by (Some m) t h k = absurd (omega arith)
      none q (inr (s, inr (t, inl l))) long = absurd (omega arith)
      none q (inr (s, inr (t, inr (e, l)))) long = absurd (omega arith)

  -- the same of a method, and the next place is in the next method
  pub past_method : (c m n : ℕ) → ((q : AnswerPlace) → q.class ≡ c → q.method ≡ Some m → n ≤ q.at → IsLongAt u q → ⊥)
      → NoneBetween (record { class = c; method = Some m; at = n; alt = 0 }) (record { class = c; method = Some (m + 1); at = 0; alt = 0 })
  past_method c m n never = record { after = after; none = none }
    where
      weaker : (o : Option ℕ) → IsMethodBefore o (Some m) → IsMethodBefore o (Some (m + 1))
      weaker None h = tt
      weaker (Some k) h = omega arith

      after : (q : AnswerPlace) → IsBefore q (record { class = c; method = Some m; at = n; alt = 0 }) → IsBefore q (record { class = c; method = Some (m + 1); at = 0; alt = 0 })
      after q (inl l) = inl l
      after q (inr (s, inl l)) = inr (s, inl (weaker q.method l))
      after q (inr (s, inr (t, l))) = let less : m < m + 1 = omega arith in inr (s, inl (subst (λ (o : Option ℕ). IsMethodBefore o (Some (m + 1))) (sym t) less))

      none : (q : AnswerPlace) → IsBefore q (record { class = c; method = Some (m + 1); at = 0; alt = 0 }) → IsLongAt u q → IsBefore q (record { class = c; method = Some m; at = n; alt = 0 })
      none q (inl l) long = inl l
      none q (inr (s, inl l)) long = by q.method refl l (cases_lt q.at n)
        where
          at : (k : ℕ) → q.method ≡ Some k → (k < m) ⊎ (k ≡ m) → (q.at < n) ⊎ (n ≤ q.at) → IsBefore q (record { class = c; method = Some m; at = n; alt = 0 })
          at k t (inl j) i = inr (s, inl (subst (λ (o : Option ℕ). IsMethodBefore o (Some m)) (sym t) j))
          at k t (inr j) (inl i) = inr (s, inr (t ∙ ap Some j, inl i))
          at k t (inr j) (inr i) = absurd (never q s (t ∙ ap Some j) i long)

          by : (o : Option ℕ) → q.method ≡ o → IsMethodBefore o (Some (m + 1)) → (q.at < n) ⊎ (n ≤ q.at) → IsBefore q (record { class = c; method = Some m; at = n; alt = 0 })
          by None t h i = inr (s, inl (subst (λ (o : Option ℕ). IsMethodBefore o (Some m)) (sym t) tt))
          by (Some k) t h i = at k t (split (cases_lt k m)) i
            where
              split : (k < m) ⊎ (m ≤ k) → (k < m) ⊎ (k ≡ m)
              split (inl j) = inl j
              split (inr j) = inr (omega arith)
      none q (inr (s, inr (t, inl l))) long = absurd (omega arith)
      none q (inr (s, inr (t, inr (e, l)))) long = absurd (omega arith)

  -- the methods from n on are of no long answer, and the next place is in the body of the next class
  pub past_class : (c n : ℕ) → ((q : AnswerPlace) (m : ℕ) → q.class ≡ c → q.method ≡ Some m → n ≤ m → IsLongAt u q → ⊥)
      → NoneBetween (record { class = c; method = Some n; at = 0; alt = 0 }) (record { class = c + 1; method = None; at = 0; alt = 0 })
  past_class c n never = record { after = after; none = none }
    where
      after : (q : AnswerPlace) → IsBefore q (record { class = c; method = Some n; at = 0; alt = 0 }) → IsBefore q (record { class = c + 1; method = None; at = 0; alt = 0 })
      after q (inl l) = inl (omega arith)
      after q (inr l) = inl (omega (arith, l.0))

      none : (q : AnswerPlace) → IsBefore q (record { class = c + 1; method = None; at = 0; alt = 0 }) → IsLongAt u q → IsBefore q (record { class = c; method = Some n; at = 0; alt = 0 })
      none q (inl l) long = by (cases_lt q.class c)
        where
          at : (o : Option ℕ) → q.class ≡ c → q.method ≡ o → IsBefore q (record { class = c; method = Some n; at = 0; alt = 0 })
          at None s t = inr (s, inl (subst (λ (o : Option ℕ). IsMethodBefore o (Some n)) (sym t) tt))
          at (Some m) s t = of (cases_lt m n)
            where
              of : (m < n) ⊎ (n ≤ m) → IsBefore q (record { class = c; method = Some n; at = 0; alt = 0 })
              of (inl j) = inr (s, inl (subst (λ (o : Option ℕ). IsMethodBefore o (Some n)) (sym t) j))
              of (inr j) = absurd (never q m s t j long)

          by : (q.class < c) ⊎ (c ≤ q.class) → IsBefore q (record { class = c; method = Some n; at = 0; alt = 0 })
          by (inl k) = inl k
          by (inr k) = let same : q.class ≡ c = omega arith in at q.method same refl
      none q (inr (s, inl l)) long = absurd (by q.method l)
        where
          by : (m : Option ℕ) → IsMethodBefore m None → ⊥
          by None h = h
          by (Some m) h = h
      none q (inr (s, inr (t, inl l))) long = absurd (omega arith)
      none q (inr (s, inr (t, inr (e, l)))) long = absurd (omega arith)

  -- before the first place
  pub none_yet : AreLongBefore u (record { class = 0; method = None; at = 0; alt = 0 }) []
  none_yet = record { each = tt; before = tt; all = λ q l long. absurd (nothing q (before q (record { class = 0; method = None; at = 0; alt = 0 }) l)); in_order = tt }
    where
      no_method : (m : Option ℕ) → IsMethodBefore m None → ⊥
      no_method None h = h
      no_method (Some m) h = h

      nothing : (q : AnswerPlace) → IsBefore q (record { class = 0; method = None; at = 0; alt = 0 }) → ⊥
      nothing q (inl l) = omega arith
      nothing q (inr (s, inl l)) = no_method q.method l
      nothing q (inr (s, inr (t, inl l))) = omega arith
      nothing q (inr (s, inr (t, inr (e, l)))) = omega arith

  -- no class is left
  pub all_of : (c : ℕ) (answers : List LongAnswer) → ((q : AnswerPlace) → c ≤ q.class → IsLongAt u q → ⊥) → AreLongBefore u (record { class = c; method = None; at = 0; alt = 0 }) answers → AreLongOf u answers
  all_of c answers never h = record { each = h.each; all = λ p long. by p long (cases_lt p.class c); in_order = h.in_order }
    where
      by : (p : AnswerPlace) → IsLongAt u p → (p.class < c) ⊎ (c ≤ p.class) → IsListed answers p
      by p long (inl l) = h.all p (less p (record { class = c; method = None; at = 0; alt = 0 }) (inl l)) long
      by p long (inr l) = absurd (never p l long)
