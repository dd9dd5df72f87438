-- Lists in which no name is twice: they are not longer than any list of the same names.
use Rattle.std.proofs.Common.{◌≡◌, ℕ, ◌+◌, ◌<◌, ◌≤◌, ◌==◌, ◌||◌, Bool, true, false, List, [], ◌∷◌, ◌++◌, length, get_or, take, drop, refl, sym, ap, ◌∙◌, arith, take-append-drop, true≢false}
use Rattle.std.specs.List.{list_any}
use Rattle.std.specs.Prelude.{if◌then◌else◌}
use Rattle.std.proofs.lemmas.Bool.{eqb-true, eq-eqb}
use Rattle.std.proofs.lemmas.List.{length-append, get_or_default}
use Rattle.std.proofs.lemmas.List.Folds.{list_any-append, list_any_more}
use Rattle.run_types.specs.declared.types.NameId.{NameId}
use Rattle.slot_queues.specs.Mail.{is_named}
use Rattle.node_state.specs.LongAnswers.{AreEachOnce, HasFewNames, HasSameNames, IsOnce}

-- the first such name is left out
abbrev without : NameId → List NameId → List NameId
without n [] = []
without n (x ∷ xs) = if x.0 == n.0 then xs else x ∷ without n xs

same_number : (m n : NameId) → (m.0 == n.0) ≡ true → (n.0 == m.0) ≡ true
same_number m n e = eq-eqb n.0 m.0 (sym (eqb-true m.0 n.0 e))

shorter : (n : NameId) (ys : List NameId) → is_named ys n ≡ true → length ys ≡ length (without n ys) + 1
shorter n [] h = absurd (cc)
shorter n (y ∷ ys) h = by (y.0 == n.0) h (shorter n ys)
  where
    by : (b : Bool) → (b || is_named ys n) ≡ true → (is_named ys n ≡ true → length ys ≡ length (without n ys) + 1) → length (y ∷ ys) ≡ length (if b then ys else y ∷ without n ys) + 1
    by true g f = omega arith
    by false g f = let rest = f g in omega arith

still_named : (n m : NameId) (ys : List NameId) → (n.0 == m.0) ≡ false → is_named ys m ≡ true → is_named (without n ys) m ≡ true
still_named n m [] d h = h
still_named n m (y ∷ ys) d h = by (y.0 == n.0) refl (still_named n m ys d)
  where
    by : (b : Bool) → (y.0 == n.0) ≡ b → (is_named ys m ≡ true → is_named (without n ys) m ≡ true) → is_named (if b then ys else y ∷ without n ys) m ≡ true
    by true e f = sym (ap (λ b. b || is_named ys m) (ap (λ k. k == m.0) (eqb-true y.0 n.0 e) ∙ d)) ∙ h
    by false e f = at (y.0 == m.0) h
      where
        at : (b : Bool) → (b || is_named ys m) ≡ true → (b || is_named (without n ys) m) ≡ true
        at true g = refl
        at false g = f g

-- a name of the rest is not the first one
other : (x m : NameId) (xs : List NameId) → is_named xs x ≡ false → is_named xs m ≡ true → (x.0 == m.0) ≡ false
other x m xs h g = by (x.0 == m.0) refl
  where
    by : (b : Bool) → (x.0 == m.0) ≡ b → (x.0 == m.0) ≡ false
    by false e = e
    by true e = absurd (true≢false (sym g ∙ ap (λ k. list_any (λ (y : NameId). y.0 == k) xs) (sym (eqb-true x.0 m.0 e)) ∙ h))

itself : (x : NameId) (xs : List NameId) → is_named (x ∷ xs) x ≡ true
itself x xs = ap (λ b. b || is_named xs x) (eq-eqb x.0 x.0 refl)

later : (x m : NameId) (xs : List NameId) → is_named xs m ≡ true → is_named (x ∷ xs) m ≡ true
later x m xs h = by (x.0 == m.0)
  where
    by : (b : Bool) → (b || is_named xs m) ≡ true
    by true = refl
    by false = h

pub at_most : (xs ys : List NameId) → IsOnce xs → ((m : NameId) → is_named xs m ≡ true → is_named ys m ≡ true) → length xs ≤ length ys
at_most [] ys once within = omega arith
at_most (x ∷ xs) ys once within =
    let long = shorter x ys (within x (itself x xs)) in
    let rest = at_most xs (without x ys) once.1 (λ m h. still_named x m ys (other x m xs once.0 h) (within m (later x m xs h))) in
    omega arith

-- one more name
pub once_more : (n : NameId) (xs : List NameId) → IsOnce xs → is_named xs n ≡ false → IsOnce (xs ++ n ∷ [])
once_more n [] once new = (refl, tt)
once_more n (x ∷ xs) once new = by (x.0 == n.0) refl new (once_more n xs once.1)
  where
    by : (b : Bool) → (x.0 == n.0) ≡ b → (b || is_named xs n) ≡ false → (is_named xs n ≡ false → IsOnce (xs ++ n ∷ [])) → IsOnce (x ∷ (xs ++ n ∷ []))
    by true e h f = absurd (true≢false h)
    by false e h f = (list_any-append (λ (y : NameId). y.0 == x.0) xs (n ∷ []) ∙ ap (λ b. b || ((n.0 == x.0) || false)) once.0 ∙ last (n.0 == x.0) refl, f h)
      where
        last : (b : Bool) → (n.0 == x.0) ≡ b → (b || false) ≡ false
        last false g = refl
        last true g = absurd (true≢false (sym (same_number n x g) ∙ e))

-- ---- each of the first k names once, and then of the first k + 1

named_by : (once : List NameId) (n m : NameId) → is_named once n ≡ true → (n.0 == m.0) ≡ true → is_named once m ≡ true
named_by once n m has e = ap (λ k. list_any (λ (x : NameId). x.0 == k) once) (sym (eqb-true n.0 m.0 e)) ∙ has

or_true : (a b : Bool) → (b ≡ true → a ≡ true) → (a || b) ≡ a
or_true true b h = refl
or_true false true h = sym (h refl)
or_true false false h = refl

or_none : (a : Bool) → (a || false) ≡ a
or_none true = refl
or_none false = refl

-- a name of the first names is one of all
of_first : (k : ℕ) (names : List NameId) (m : NameId) → is_named (take k names) m ≡ true → is_named names m ≡ true
of_first k names m h = sym (ap (λ ns. is_named ns m) (take-append-drop k names)) ∙ list_any-append (λ (y : NameId). y.0 == m.0) (take k names) (drop k names) ∙ ap (λ b. b || is_named (drop k names) m) h

module _ (once names : List NameId) (k : ℕ) (d : NameId) (less : k < length names) (same : HasSameNames once (take k names)) (each : IsOnce once) where
  one_more : (n : NameId) → get_or names k n ≡ n → (m : NameId) → is_named (take (k + 1) names) m ≡ (is_named (take k names) m || (n.0 == m.0))
  one_more n is m = list_any_more (λ (x : NameId). x.0 == m.0) names k n less ∙ ap (λ (x : NameId). is_named (take k names) m || (x.0 == m.0)) is

  more : (m : NameId) → is_named (take (k + 1) names) m ≡ (is_named (take k names) m || ((get_or names k d).0 == m.0))
  more = one_more (get_or names k d) (get_or_default names k (get_or names k d) d less)

  -- the name is there
  pub named_again : is_named once (get_or names k d) ≡ true → HasSameNames once (take (k + 1) names)
  named_again has m = sym (or_true (is_named once m) ((get_or names k d).0 == m.0) (λ e. named_by once (get_or names k d) m has e)) ∙ ap (λ b. b || ((get_or names k d).0 == m.0)) (same m) ∙ sym (more m)

  -- it is new
  module _ (new : is_named once (get_or names k d) ≡ false) where
    named_first : HasSameNames (once ++ get_or names k d ∷ []) (take (k + 1) names)
    named_first m = list_any-append (λ (x : NameId). x.0 == m.0) once (get_or names k d ∷ []) ∙ ap (λ b. is_named once m || b) (or_none ((get_or names k d).0 == m.0)) ∙ ap (λ b. b || ((get_or names k d).0 == m.0)) (same m) ∙ sym (more m)

    pub appended : length once ≤ 64 → (length once ≡ 64 → ⊥) → AreEachOnce (once ++ get_or names k d ∷ []) (take (k + 1) names)
    appended most room = let long = length-append once (get_or names k d ∷ []) in record { same = named_first; each = once_more (get_or names k d) once each new; few = omega arith }

    -- 65 names are different
    pub too_many : length once ≡ 64 → HasFewNames names → ⊥
    too_many full few =
        let most = at_most (once ++ get_or names k d ∷ []) few.0 (once_more (get_or names k d) once each new) (λ m h. few.1 m ∙ of_first (k + 1) names m (sym (named_first m) ∙ h)) in
        let long = length-append once (get_or names k d ∷ []) in
        let short = few.2 in
        omega arith
