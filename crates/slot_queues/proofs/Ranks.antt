-- How many messages to a slot have lesser stamps.
use Rattle.std.proofs.Common.{◌≡◌, ℕ, zero, suc, ◌+◌, ◌<◌, ◌≤◌, ◌==◌, ◌&&◌, ltb, leb, cond, Bool, true, false, List, [], ◌∷◌, ◌++◌, length, get_or, position, slice_get, Option, Some, None, refl, sym, ap, ◌∙◌, subst, arith, append_assoc, add-one}
use Rattle.std.proofs.lemmas.List.{append-nil}
use Rattle.std.proofs.lemmas.Bool.{eqb-false, leb-true, leb-false, eq-eqb, ne_eqb, lt-ltb, le-ltb, ltb-true, ltb-false, eqb-true}
use Rattle.std.specs.List.{position_from}
use Rattle.std.proofs.lemmas.Iterator.Adapters.{position_from-zero}
use Rattle.run_types.specs.Tables.{Each}
use Rattle.slot_queues.specs.declared.lanes.Stamped.{Stamped}
use Rattle.slot_queues.specs.Lanes.{rank_in, put_in, in_order, of_slot, joined, sizes, Follows, IsChain}
use Rattle.slot_queues.proofs.Joined.{each_map, each_both}
use Rattle.slot_queues.proofs.Places.{there, split, none_passes}

-- 1 if the message counts
abbrev counts : ℕ → ℕ → Stamped → ℕ
counts to end x = cond ((x.to == to) && ltb x.stamp end) 1 0

pub rank_append : (to end : ℕ) (xs ys : List Stamped) → rank_in to end (xs ++ ys) ≡ rank_in to end xs + rank_in to end ys
rank_append to end [] ys = omega arith
rank_append to end (x ∷ xs) ys = omega (arith, rank_append to end xs ys)

rank_put_in : (to end : ℕ) (x : Stamped) (xs : List Stamped) → rank_in to end (put_in x xs) ≡ counts to end x + rank_in to end xs
rank_put_in to end x [] = refl
rank_put_in to end x (y ∷ ys) = by (ltb x.stamp y.stamp) (rank_put_in to end x ys)
  where
    by : (b : Bool) → rank_in to end (put_in x ys) ≡ counts to end x + rank_in to end ys → rank_in to end (cond b (x ∷ y ∷ ys) (y ∷ put_in x ys)) ≡ counts to end x + (counts to end y + rank_in to end ys)
    by true e = refl
    by false e = omega (arith, e)

-- the order of the messages does not matter
rank_in_order : (to end : ℕ) (xs : List Stamped) → rank_in to end (in_order xs) ≡ rank_in to end xs
rank_in_order to end [] = refl
rank_in_order to end (x ∷ xs) = omega (arith, rank_put_in to end x (in_order xs), rank_in_order to end xs)

-- nor do those to other slots
rank_of_slot : (to end : ℕ) (xs : List Stamped) → rank_in to end (of_slot to xs) ≡ rank_in to end xs
rank_of_slot to end [] = refl
rank_of_slot to end (x ∷ xs) = by (x.to == to) refl (rank_of_slot to end xs)
  where
    by : (b : Bool) → (x.to == to) ≡ b → rank_in to end (of_slot to xs) ≡ rank_in to end xs → rank_in to end (cond b (x ∷ of_slot to xs) (of_slot to xs)) ≡ counts to end x + rank_in to end xs
    by true t e = omega (arith, e)
    by false t e = let none : counts to end x ≡ 0 = ap (λ b. cond (b && ltb x.stamp end) 1 0) t in omega (arith, e, none)

pub rank_early : (to end : ℕ) (xs : List Stamped) → rank_in to end (in_order (of_slot to xs)) ≡ rank_in to end xs
rank_early to end xs = rank_in_order to end (of_slot to xs) ∙ rank_of_slot to end xs

-- each of them counts
pub rank_all : (to end : ℕ) (xs : List Stamped) → Each (λ (x : Stamped). (x.to ≡ to) × (x.stamp < end)) xs → rank_in to end xs ≡ length xs
rank_all to end [] h = refl
rank_all to end (x ∷ xs) h =
    let one : counts to end x ≡ 1 = ap (λ b. cond (b && ltb x.stamp end) 1 0) (eq-eqb x.to to h.0.0) ∙ ap (λ b. cond b 1 0) (lt-ltb x.stamp end h.0.1) in omega (arith, one, rank_all to end xs h.1)

and_false : (b : Bool) → ◌≡◌ {A = ℕ} (cond (b && false) 1 0) 0
and_false true = refl
and_false false = refl

-- none of them counts
pub rank_none : (to end : ℕ) (xs : List Stamped) → Each (λ (x : Stamped). end ≤ x.stamp) xs → rank_in to end xs ≡ 0
rank_none to end [] h = refl
rank_none to end (x ∷ xs) h =
    let none : counts to end x ≡ 0 = ap (λ b. cond ((x.to == to) && b) 1 0) (le-ltb x.stamp end h.0) ∙ and_false (x.to == to) in omega (arith, none, rank_none to end xs h.1)

pub rank_other : (to end : ℕ) (xs : List Stamped) → Each (λ (x : Stamped). x.to ≡ to → ⊥) xs → rank_in to end xs ≡ 0
rank_other to end [] h = refl
rank_other to end (x ∷ xs) h = let none : counts to end x ≡ 0 = ap (λ b. cond (b && ltb x.stamp end) 1 0) (ne_eqb x.to to h.0) in omega (arith, none, rank_other to end xs h.1)

one_at_most : (b : Bool) → cond b 1 0 ≤ 1
one_at_most true = omega arith
one_at_most false = omega arith

rank_length : (to end : ℕ) (xs : List Stamped) → rank_in to end xs ≤ length xs
rank_length to end [] = omega arith
rank_length to end (x ∷ xs) = omega (arith, one_at_most ((x.to == to) && ltb x.stamp end), rank_length to end xs)

-- no more count than there are
pub rank_sizes : (to end n : ℕ) (l : List (List Stamped)) → rank_in to end (joined n l) ≤ sizes l
rank_sizes to end zero l = omega arith
rank_sizes to end (suc n) [] = omega arith
rank_sizes to end (suc n) (xs ∷ l) = omega (arith, rank_append to end xs (joined n l), rank_length to end xs, rank_sizes to end n l)

-- one more queue
joined_more : (q : ℕ) (l : List (List Stamped)) → q < length l → joined (suc q) l ≡ joined q l ++ get_or l q []
joined_more q [] h = absurd (omega (arith, h))
joined_more zero (xs ∷ l) h = append-nil xs
joined_more (suc q) (xs ∷ l) h = ap (λ z. xs ++ z) (joined_more q l (omega (arith, h))) ∙ sym (append_assoc xs (joined q l) (get_or l q []))

pub rank_more : (to end q : ℕ) (l : List (List Stamped)) → q < length l → rank_in to end (joined (q + 1) l) ≡ rank_in to end (joined q l) + rank_in to end (get_or l q [])
rank_more to end q l h = ap (λ j. rank_in to end (joined j l)) (add-one q) ∙ ap (rank_in to end) (joined_more q l h) ∙ rank_append to end (joined q l) (get_or l q [])

pub each_more : (P : Stamped → Type 0) (q : ℕ) (l : List (List Stamped)) → q < length l → Each P (joined q l) → Each P (get_or l q []) → Each P (joined (q + 1) l)
each_more P q l h a b = subst (λ j. Each P (joined j l)) (sym (add-one q)) (subst (λ z. Each P z) (sym (joined_more q l h)) (each_both P (joined q l) (get_or l q []) a b))

-- in a shared queue they are those before the first that is not below
abbrev pub length_or : {X : Type 0} → List X → Option ℕ → ℕ
length_or xs None = length xs
length_or xs (Some i) = i

abbrev after_or : ℕ → List Stamped → Option ℕ → ℕ
after_or n xs None = n + length xs
after_or n xs (Some i) = i

rank_from : (to end n : ℕ) (xs : List Stamped) → Each (λ (x : Stamped). x.to ≡ to) xs → IsChain xs → (r : Option ℕ) → position_from (λ (x : Stamped). leb end x.stamp) n xs ≡ r → n + rank_in to end xs ≡ after_or n xs r
rank_from to end n [] same chain r e = subst (λ o. n + 0 ≡ after_or n [] o) e refl
rank_from to end n (x ∷ xs) same chain r e = by (leb end x.stamp) refl e (rank_from to end (n + 1) xs same.1 chain.1 r)
  where
    p : Stamped → Bool
    p y = leb end y.stamp

    by : (b : Bool) → leb end x.stamp ≡ b → cond b (Some n) (position_from (λ (y : Stamped). leb end y.stamp) (n + 1) xs) ≡ r
        → (position_from (λ (y : Stamped). leb end y.stamp) (n + 1) xs ≡ r → n + 1 + rank_in to end xs ≡ after_or (n + 1) xs r) → n + rank_in to end (x ∷ xs) ≡ after_or n (x ∷ xs) r
    by true t e later =
        let le : end ≤ x.stamp = leb-true end x.stamp t in
        subst (λ o. n + rank_in to end (x ∷ xs) ≡ after_or n (x ∷ xs) o) e
        (omega (arith, rank_none to end (x ∷ xs) (le, each_map (Follows x) (λ y. end ≤ y.stamp) (λ y f. let g = f.2 in omega (arith, g, le)) xs chain.0)))
    by false t e later =
        let less : x.stamp < end = leb-false end x.stamp t in
        let one : counts to end x ≡ 1 = ap (λ b. cond (b && ltb x.stamp end) 1 0) (eq-eqb x.to to same.0) ∙ ap (λ b. cond b 1 0) (lt-ltb x.stamp end less) in step r (later e) one
      where
        step : (o : Option ℕ) → n + 1 + rank_in to end xs ≡ after_or (n + 1) xs o → counts to end x ≡ 1 → n + rank_in to end (x ∷ xs) ≡ after_or n (x ∷ xs) o
        step None a one = omega (arith, a, one)
        step (Some i) a one = omega (arith, a, one)

pub rank_queue : (to end : ℕ) (x : Stamped) (xs : List Stamped) → IsChain (x ∷ xs) → x.to ≡ to → (r : Option ℕ) → r ≡ position (λ (y : Stamped). leb end y.stamp) (x ∷ xs) → length_or (x ∷ xs) r ≡ rank_in to end (x ∷ xs)
rank_queue to end x xs chain is r e =
    let same : Each (λ (y : Stamped). y.to ≡ to) (x ∷ xs) = (is, each_map (Follows x) (λ y. y.to ≡ to) (λ y f. f.0 ∙ is) xs chain.0) in
    by r (rank_from to end 0 (x ∷ xs) same chain r (sym (position_from-zero (λ (y : Stamped). leb end y.stamp) (x ∷ xs)) ∙ sym e))
  where
    by : (o : Option ℕ) → 0 + rank_in to end (x ∷ xs) ≡ after_or 0 (x ∷ xs) o → length_or (x ∷ xs) o ≡ rank_in to end (x ∷ xs)
    by None a = omega (arith, a)
    by (Some i) a = omega (arith, a)

-- in a queue of another slot there is none
pub rank_elsewhere : (to end : ℕ) (x : Stamped) (xs : List Stamped) → IsChain (x ∷ xs) → (x.to ≡ to → ⊥) → rank_in to end (x ∷ xs) ≡ 0
rank_elsewhere to end x xs chain ne = rank_other to end (x ∷ xs) (ne, each_map (Follows x) (λ y. y.to ≡ to → ⊥) (λ y f e. ne (sym f.0 ∙ e)) xs chain.0)

-- one stamp more counts only the message with that stamp
same_count : (to t : ℕ) (x : Stamped) → (x.stamp ≡ t → ⊥) → counts to (t + 1) x ≡ counts to t x
same_count to t x ne = ap (λ b. cond ((x.to == to) && b) 1 0) (by (ltb x.stamp t) refl)
  where
    by : (b : Bool) → ltb x.stamp t ≡ b → ltb x.stamp (t + 1) ≡ b
    by true e = let h = ltb-true x.stamp t e in lt-ltb x.stamp (t + 1) (omega (arith, h))
    by false e = let h = ltb-false x.stamp t e in le-ltb x.stamp (t + 1) (omega (arith, h, ne))

pub rank_same : (to t : ℕ) (xs : List Stamped) → Each (λ (x : Stamped). x.stamp ≡ t → ⊥) xs → rank_in to (t + 1) xs ≡ rank_in to t xs
rank_same to t [] h = refl
rank_same to t (x ∷ xs) h = omega (arith, same_count to t x h.0, rank_same to t xs h.1)

pub for_the_slot : (to end : ℕ) (x : Stamped) (xs : List Stamped) → rank_in to end xs < rank_in to end (x ∷ xs) → x.to ≡ to
for_the_slot to end x xs less = by (x.to == to) refl
  where
    by : (b : Bool) → (x.to == to) ≡ b → x.to ≡ to
    by true t = eqb-true x.to to t
    by false t = let none : counts to end x ≡ 0 = ap (λ b. cond (b && ltb x.stamp end) 1 0) t in absurd (omega (arith, none, less))

pub one_more_at_most : (to end : ℕ) (x : Stamped) (xs : List Stamped) → rank_in to end (x ∷ xs) ≤ rank_in to end xs + 1
one_more_at_most to end x xs = omega (arith, one_at_most ((x.to == to) && ltb x.stamp end))

-- a queue is known by its front message
pub rank_front_other : (to end : ℕ) (xs : List Stamped) (x : Stamped) → slice_get xs 0 ≡ Some x → IsChain xs → (x.to ≡ to → ⊥) → 0 ≡ rank_in to end xs
rank_front_other to end [] x e chain ne = cc
rank_front_other to end (y ∷ ys) x e chain ne = let same : y ≡ x = cc in sym (rank_elsewhere to end y ys chain (λ f. ne (ap (λ (z : Stamped). z.to) (sym same) ∙ f)))

pub rank_front : (to end : ℕ) (xs : List Stamped) (x : Stamped) → slice_get xs 0 ≡ Some x → IsChain xs → x.to ≡ to → (r : Option ℕ) → r ≡ position (λ (y : Stamped). leb end y.stamp) xs → length_or xs r ≡ rank_in to end xs
rank_front to end [] x e chain is r f = cc
rank_front to end (y ∷ ys) x e chain is r f = let same : y ≡ x = cc in rank_queue to end y ys chain (ap (λ (z : Stamped). z.to) same ∙ is) r f

each_zero : (xs : List Stamped) → Each (λ (x : Stamped). 0 ≤ x.stamp) xs
each_zero [] = tt
each_zero (x ∷ xs) = (omega arith, each_zero xs)

pub rank_zero : (to : ℕ) (xs : List Stamped) → rank_in to 0 xs ≡ 0
rank_zero to xs = rank_none to 0 xs (each_zero xs)

-- if a message counts, a stamp was given
pub stamps_given : (to next place : ℕ) (xs : List Stamped) → place < rank_in to next xs → 0 < next
stamps_given to zero place xs h = absurd (omega (arith, h, rank_zero to xs))
stamps_given to (suc next) place xs h = omega arith

-- a message with a stamp, or none
pub stamp_found : (t : ℕ) (xs : List Stamped) (i : ℕ) → Some i ≡ position (λ (x : Stamped). x.stamp == t) xs → (x : Stamped) × (slice_get xs i ≡ Some x) × (x.stamp ≡ t)
stamp_found t xs i e =
    let s = split (λ (x : Stamped). x.stamp == t) xs i (sym e) in let at : i ≡ length s.before = omega (arith, s.place) in
    (s.first, ap (λ l. slice_get l i) s.all ∙ ap (λ k. slice_get (s.before ++ s.first ∷ s.after) k) at ∙ there s.before s.first s.after, eqb-true s.first.stamp t s.passes)

pub stamp_absent : (t : ℕ) (xs : List Stamped) → None ≡ position (λ (x : Stamped). x.stamp == t) xs → Each (λ (x : Stamped). x.stamp ≡ t → ⊥) xs
stamp_absent t xs e = each_map (λ (x : Stamped). (x.stamp == t) ≡ false) (λ x. x.stamp ≡ t → ⊥) (λ x f. eqb-false x.stamp t f) xs (none_passes (λ (x : Stamped). x.stamp == t) xs (sym e))
