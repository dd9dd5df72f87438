-- Messages in the order of their stamps, after one came in or was taken out.
use Rattle.std.proofs.Common.{◌≡◌, ℕ, ◌<◌, ◌≤◌, ltb, cond, Bool, true, false, List, [], ◌∷◌, ◌++◌, refl, sym, ap, ◌∙◌, arith, lt-ltb, le-ltb, ltb-true, ltb-false}
use Rattle.run_types.specs.Tables.{Each}
use Rattle.slot_queues.specs.declared.lanes.Stamped.{Stamped}
use Rattle.slot_queues.specs.Lanes.{put_in, in_order}

pub put_before : (x y : Stamped) (ys : List Stamped) → ltb x.stamp y.stamp ≡ true → put_in x (y ∷ ys) ≡ x ∷ y ∷ ys
put_before x y ys e = ap (λ b. cond b (x ∷ y ∷ ys) (y ∷ put_in x ys)) e

pub put_after : (x y : Stamped) (ys : List Stamped) → ltb x.stamp y.stamp ≡ false → put_in x (y ∷ ys) ≡ y ∷ put_in x ys
put_after x y ys e = ap (λ b. cond b (x ∷ y ∷ ys) (y ∷ put_in x ys)) e

-- a message that arrived after all others is the last
pub put_in_last : (m : Stamped) (xs : List Stamped) → Each (λ (x : Stamped). x.stamp < m.stamp) xs → put_in m xs ≡ xs ++ m ∷ []
put_in_last m [] h = refl
put_in_last m (x ∷ xs) h = put_after m x xs (le-ltb m.stamp x.stamp (omega (arith, h.0))) ∙ ap (λ l. x ∷ l) (put_in_last m xs h.1)

-- two messages may come in in either order
put_in_lesser : (a m : Stamped) → a.stamp < m.stamp → (xs : List Stamped) → put_in a (put_in m xs) ≡ put_in m (put_in a xs)
put_in_lesser a m less [] = put_before a m [] (lt-ltb a.stamp m.stamp less) ∙ sym (put_after m a [] (le-ltb m.stamp a.stamp (omega arith)))
put_in_lesser a m less (x ∷ xs) = by (ltb a.stamp x.stamp) refl (ltb m.stamp x.stamp) refl (put_in_lesser a m less xs)
  where
    by : (b : Bool) → ltb a.stamp x.stamp ≡ b → (d : Bool) → ltb m.stamp x.stamp ≡ d → put_in a (put_in m xs) ≡ put_in m (put_in a xs) → put_in a (put_in m (x ∷ xs)) ≡ put_in m (put_in a (x ∷ xs))
    by true e true f same =
        ap (put_in a) (put_before m x xs f) ∙ put_before a m (x ∷ xs) (lt-ltb a.stamp m.stamp less)
        ∙ sym (ap (put_in m) (put_before a x xs e) ∙ put_after m a (x ∷ xs) (le-ltb m.stamp a.stamp (omega arith)) ∙ ap (λ l. a ∷ l) (put_before m x xs f))
    by true e false f same =
        ap (put_in a) (put_after m x xs f) ∙ put_before a x (put_in m xs) e
        ∙ sym (ap (put_in m) (put_before a x xs e) ∙ put_after m a (x ∷ xs) (le-ltb m.stamp a.stamp (omega arith)) ∙ ap (λ l. a ∷ l) (put_after m x xs f))
    by false e true f same = let h = ltb-true m.stamp x.stamp f in let k = ltb-false a.stamp x.stamp e in absurd (omega (arith, h, k, less))
    by false e false f same =
        ap (put_in a) (put_after m x xs f) ∙ put_after a x (put_in m xs) e ∙ ap (λ l. x ∷ l) same
        ∙ sym (ap (put_in m) (put_after a x xs e) ∙ put_after m x (put_in a xs) f)

pub put_in_twice : (a m : Stamped) → (a.stamp ≡ m.stamp → ⊥) → (xs : List Stamped) → put_in a (put_in m xs) ≡ put_in m (put_in a xs)
put_in_twice a m differ xs = by (ltb a.stamp m.stamp) refl
  where
    by : (b : Bool) → ltb a.stamp m.stamp ≡ b → put_in a (put_in m xs) ≡ put_in m (put_in a xs)
    by true e = put_in_lesser a m (ltb-true a.stamp m.stamp e) xs
    by false e = let k = ltb-false a.stamp m.stamp e in let less : m.stamp < a.stamp = omega (arith, k, differ) in sym (put_in_lesser m a less xs)

-- a message in the middle is one that came in
pub in_order_middle : (xs : List Stamped) (m : Stamped) (ys : List Stamped) → Each (λ (x : Stamped). x.stamp ≡ m.stamp → ⊥) xs → in_order (xs ++ m ∷ ys) ≡ put_in m (in_order (xs ++ ys))
in_order_middle [] m ys h = refl
in_order_middle (x ∷ xs) m ys h = ap (put_in x) (in_order_middle xs m ys h.1) ∙ put_in_twice x m h.0 (in_order (xs ++ ys))

each_put_in : (P : Stamped → Type 0) (m : Stamped) (xs : List Stamped) → P m → Each P xs → Each P (put_in m xs)
each_put_in P m [] here h = (here, tt)
each_put_in P m (x ∷ xs) here h = by (ltb m.stamp x.stamp) (each_put_in P m xs here h.1)
  where
    by : (b : Bool) → Each P (put_in m xs) → Each P (cond b (m ∷ x ∷ xs) (x ∷ put_in m xs))
    by true rest = (here, h)
    by false rest = (h.0, rest)

-- what is true of each message is true of each in order
pub each_in_order : (P : Stamped → Type 0) (xs : List Stamped) → Each P xs → Each P (in_order xs)
each_in_order P [] h = tt
each_in_order P (x ∷ xs) h = each_put_in P x (in_order xs) h.0 (each_in_order P xs h.1)

-- m stands between those before it, of which none passes p, and those after it
pub record Stands (p : Stamped → Bool) (m : Stamped) (xs : List Stamped) : Type 0 where
  pub before : List Stamped
  pub after : List Stamped
  pub all : put_in m xs ≡ before ++ m ∷ after
  pub rest : xs ≡ before ++ after
  pub none : Each (λ (x : Stamped). p x ≡ false) before
  pub lesser : Each (λ (x : Stamped). x.stamp ≤ m.stamp) before

-- the first message that passes p stands behind those that do not
pub stands : (p : Stamped → Bool) (m : Stamped) (xs : List Stamped) → Each (λ (x : Stamped). p x ≡ true → m.stamp < x.stamp) xs → Stands p m xs
stands p m [] h = record { before = []; after = []; all = refl; rest = refl; none = tt; lesser = tt }
stands p m (x ∷ xs) h = by (ltb m.stamp x.stamp) refl (p x) refl (stands p m xs h.1)
  where
    by : (b : Bool) → ltb m.stamp x.stamp ≡ b → (d : Bool) → p x ≡ d → Stands p m xs → Stands p m (x ∷ xs)
    by true e d f s = record { before = []; after = x ∷ xs; all = put_before m x xs e; rest = refl; none = tt; lesser = tt }
    by false e true f s = let less = h.0 f in let k = ltb-false m.stamp x.stamp e in absurd (omega (arith, less, k))
    by false e false f s = record {
      before = x ∷ s.before;
      after = s.after;
      all = put_after m x xs e ∙ ap (λ l. x ∷ l) s.all;
      rest = ap (λ l. x ∷ l) s.rest;
      none = (f, s.none);
      lesser = (ltb-false m.stamp x.stamp e, s.lesser);
    }

-- no stamp is below one before it
abbrev pub IsRising : List Stamped → Type 0
IsRising [] = Unit {0}
IsRising (x ∷ xs) = Each (λ (y : Stamped). x.stamp ≤ y.stamp) xs × IsRising xs

put_in_rising : (m : Stamped) (xs : List Stamped) → IsRising xs → IsRising (put_in m xs)
put_in_rising m [] h = (tt, tt)
put_in_rising m (x ∷ xs) h = by (ltb m.stamp x.stamp) refl (put_in_rising m xs h.1)
  where
    above : (k : ℕ) → k ≤ x.stamp → (ys : List Stamped) → Each (λ (y : Stamped). x.stamp ≤ y.stamp) ys → Each (λ (y : Stamped). k ≤ y.stamp) ys
    above k le [] a = tt
    above k le (y ∷ ys) a = let first = a.0 in (omega (arith, first), above k le ys a.1)

    by : (b : Bool) → ltb m.stamp x.stamp ≡ b → IsRising (put_in m xs) → IsRising (cond b (m ∷ x ∷ xs) (x ∷ put_in m xs))
    by true e rest = let less = ltb-true m.stamp x.stamp e in ((omega (arith, less), above m.stamp (omega (arith, less)) xs h.0), h)
    by false e rest = (each_put_in (λ y. x.stamp ≤ y.stamp) m xs (ltb-false m.stamp x.stamp e) h.0, rest)

pub in_order_rising : (xs : List Stamped) → IsRising (in_order xs)
in_order_rising [] = tt
in_order_rising (x ∷ xs) = put_in_rising x (in_order xs) (in_order_rising xs)

-- what stands behind m is not below it
pub rising_after : (xs : List Stamped) (m : Stamped) (ys : List Stamped) → IsRising (xs ++ m ∷ ys) → Each (λ (y : Stamped). m.stamp ≤ y.stamp) ys
rising_after [] m ys h = h.0
rising_after (x ∷ xs) m ys h = rising_after xs m ys h.1
