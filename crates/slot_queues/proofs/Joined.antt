-- Queues one after another: the messages of the first of them, around those of one.
use Rattle.std.proofs.Common.{◌≡◌, ℕ, zero, suc, ◌+◌, ◌<◌, ◌≤◌, ◌==◌, cond, Bool, true, false, List, [], ◌∷◌, ◌++◌, length, get_or, set, refl, sym, ap, ◌∙◌, arith, append_assoc, eq-eqb, eqb-true}
use Rattle.std.specs.List.{filter}
use Rattle.run_types.specs.Tables.{Each}
use Rattle.slot_queues.specs.declared.lanes.Stamped.{Stamped}
use Rattle.slot_queues.specs.Lanes.{joined, times, sizes}

pub each_left : {X : Type 0} (P : X → Type 0) (xs ys : List X) → Each P (xs ++ ys) → Each P xs
each_left P [] ys h = tt
each_left P (x ∷ xs) ys h = (h.0, each_left P xs ys h.1)

pub each_right : {X : Type 0} (P : X → Type 0) (xs ys : List X) → Each P (xs ++ ys) → Each P ys
each_right P [] ys h = h
each_right P (x ∷ xs) ys h = each_right P xs ys h.1

pub each_both : {X : Type 0} (P : X → Type 0) (xs ys : List X) → Each P xs → Each P ys → Each P (xs ++ ys)
each_both P [] ys h k = k
each_both P (x ∷ xs) ys h k = (h.0, each_both P xs ys h.1 k)

pub each_map : {X : Type 0} (P Q : X → Type 0) → ((x : X) → P x → Q x) → (xs : List X) → Each P xs → Each Q xs
each_map P Q f [] h = tt
each_map P Q f (x ∷ xs) h = (f x h.0, each_map P Q f xs h.1)

pub each_two : {X : Type 0} (P Q R : X → Type 0) → ((x : X) → P x → Q x → R x) → (xs : List X) → Each P xs → Each Q xs → Each R xs
each_two P Q R f [] h k = tt
each_two P Q R f (x ∷ xs) h k = (f x h.0 k.0, each_two P Q R f xs h.1 k.1)

-- what is true of each element that passes is true of each that a filter keeps
pub each_kept : {X : Type 0} (p : X → Bool) (P : X → Type 0) (xs : List X) → Each (λ x. p x ≡ true → P x) xs → Each P (filter p xs)
each_kept p P [] h = tt
each_kept p P (x ∷ xs) h = by (p x) refl (each_kept p P xs h.1)
  where
    by : (b : Bool) → p x ≡ b → Each P (filter p xs) → Each P (cond b (x ∷ filter p xs) (filter p xs))
    by true e rest = (h.0 e, rest)
    by false e rest = rest

-- the messages of the first n queues around those of queue q
pub record Around (n q : ℕ) (l : List (List Stamped)) : Type 0 where
  pub before : List Stamped
  pub after : List Stamped
  pub all : joined n l ≡ before ++ (get_or l q [] ++ after)
  pub changed : (ys : List Stamped) → joined n (set l q ys) ≡ before ++ (ys ++ after)

pub around : (n q : ℕ) (l : List (List Stamped)) → q < n → q < length l → Around n q l
around zero q l less there = absurd (omega (arith, less))
around (suc n) q [] less there = absurd (omega (arith, there))
around (suc n) zero (xs ∷ l) less there = record { before = []; after = joined n l; all = refl; changed = λ ys. refl }
around (suc n) (suc q) (xs ∷ l) less there =
    let r = around n q l (omega (arith, less)) (omega (arith, there)) in record {
      before = xs ++ r.before;
      after = r.after;
      all = ap (λ z. xs ++ z) r.all ∙ sym (append_assoc xs r.before (get_or l q [] ++ r.after));
      changed = λ ys. ap (λ z. xs ++ z) (r.changed ys) ∙ sym (append_assoc xs r.before (ys ++ r.after));
    }

-- a change of a later queue does not change them
pub joined_beyond : (n q : ℕ) (l : List (List Stamped)) (ys : List Stamped) → n ≤ q → joined n (set l q ys) ≡ joined n l
joined_beyond zero q l ys le = refl
joined_beyond (suc n) q [] ys le = refl
joined_beyond (suc n) zero (xs ∷ l) ys le = absurd (omega (arith, le))
joined_beyond (suc n) (suc q) (xs ∷ l) ys le = ap (λ z. xs ++ z) (joined_beyond n q l ys (omega (arith, le)))

pub each_joined : (P : Stamped → Type 0) (n : ℕ) (l : List (List Stamped)) → ((q : ℕ) → q < n → Each P (get_or l q [])) → Each P (joined n l)
each_joined P zero l h = tt
each_joined P (suc n) [] h = tt
each_joined P (suc n) (xs ∷ l) h = each_both P xs (joined n l) (h 0 (omega arith)) (each_joined P n l (λ q less. h (suc q) (omega (arith, less))))

-- ---- how often a stamp is there

pub times_append : (t : ℕ) (xs ys : List Stamped) → times t (xs ++ ys) ≡ times t xs + times t ys
times_append t [] ys = omega arith
times_append t (x ∷ xs) ys = omega (arith, times_append t xs ys)

pub none_times : (t : ℕ) (xs : List Stamped) → times t xs ≡ 0 → Each (λ (x : Stamped). x.stamp ≡ t → ⊥) xs
none_times t [] e = tt
none_times t (x ∷ xs) e =
    let one : ℕ = 1 in
    (λ same. let h : cond (x.stamp == t) 1 0 ≡ one = ap (λ b. cond b 1 0) (eq-eqb x.stamp t same) in absurd (omega (arith, h, e)), none_times t xs (omega (arith, e)))

pub times_none : (t : ℕ) (xs : List Stamped) → Each (λ (x : Stamped). x.stamp < t) xs → times t xs ≡ 0
times_none t [] h = refl
times_none t (x ∷ xs) h = by (x.stamp == t) refl (times_none t xs h.1)
  where
    by : (b : Bool) → (x.stamp == t) ≡ b → times t xs ≡ 0 → cond b 1 0 + times t xs ≡ 0
    by true e rest = let less = h.0 in absurd (omega (arith, eqb-true x.stamp t e, less))
    by false e rest = omega (arith, rest)

-- ---- the lengths of lists after one of them changed

pub sizes_set : {X : Type 0} (l : List (List X)) (i : ℕ) (ys : List X) → i < length l → sizes (set l i ys) + length (get_or l i []) ≡ sizes l + length ys
sizes_set [] i ys h = absurd (omega (arith, h))
sizes_set (xs ∷ l) zero ys h = omega arith
sizes_set (xs ∷ l) (suc i) ys h = omega (arith, sizes_set l i ys (omega (arith, h)))
