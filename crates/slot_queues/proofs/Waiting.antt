-- The lists of the shared queues that have messages to each slot, as messages come and go, and the search along one of them.
use Rattle.std.proofs.Common.{◌≡◌, ℕ, zero, suc, ◌+◌, ◌<◌, ◌≤◌, ◌==◌, ◌&&◌, ◌||◌, ltb, cond, Bool, true, false, ◌⊎◌, inl, inr, List, [], ◌∷◌, ◌++◌, length, get_or, set, drop, position, remove, slice_get, Option, Some, None, replicate, refl, sym, ap, ◌∙◌, subst, arith, length-append}
use Rattle.std.specs.List.{list_any}
use Rattle.std.proofs.lemmas.Bool.{cases_eq, ltb-true, lt-ltb, eqb-true, eq-eqb, and_parts, and_from, or_cases}
use Rattle.std.proofs.lemmas.List.{get_or-set_same, get_or-set_other, set-get_or, length-set, get_or-replicate, length-replicate}
use Rattle.std.proofs.lemmas.List.Edits.{length-remove}
use Rattle.std.proofs.lemmas.List.Quantifiers.{position-Some}
use Rattle.std.proofs.lemmas.Option.{slice_get_within, slice_get-get_or}
use Rattle.run_types.specs.Tables.{Each}
use Rattle.run_types.specs.declared.types.NameId.{NameId}
use Rattle.cell_pool.specs.Lists.{Pool, pool, lengths, list_of, with_list, free_of, IsLeast}
use Rattle.slot_queues.specs.declared.lanes.Stamped.{Stamped}
use Rattle.slot_queues.specs.declared.lanes.Lanes.{Lanes}
use Rattle.slot_queues.specs.Lanes.{shared, may_hold, Follows, IsChain, IsFound, Named}
use Rattle.slot_queues.specs.Mail.{is_named}
use Rattle.slot_queues.specs.Waiting.{is_in, used, used_of, stamp_if_named, named_stamp, IsHeld, IsListed, IsListedIn, IsPosted, IsRemoved}
use Rattle.slot_queues.proofs.Joined.{each_map}
use Rattle.slot_queues.proofs.Places.{none_passes}

-- ---- how many queues have messages

used_set : (n q : ℕ) (l : List (List Stamped)) (ys : List Stamped) → q < n → q < length l → used_of n (set l q ys) + used (get_or l q []) ≡ used_of n l + used ys
used_set zero q l ys less there = absurd (omega (arith, less))
used_set (suc n) q [] ys less there = absurd (omega (arith, there))
used_set (suc n) zero (xs ∷ l) ys less there = omega arith
used_set (suc n) (suc q) (xs ∷ l) ys less there = omega (arith, used_set n q l ys (omega (arith, less)) (omega (arith, there)))

used_beyond : (n q : ℕ) (l : List (List Stamped)) (ys : List Stamped) → n ≤ q → used_of n (set l q ys) ≡ used_of n l
used_beyond zero q l ys le = refl
used_beyond (suc n) q [] ys le = refl
used_beyond (suc n) zero (xs ∷ l) ys le = absurd (omega (arith, le))
used_beyond (suc n) (suc q) (xs ∷ l) ys le = ap (λ z. used xs + z) (used_beyond n q l ys (omega (arith, le)))

used_most : (xs : List Stamped) → used xs ≤ 1
used_most [] = omega arith
used_most (x ∷ xs) = omega arith

used_of_most : (n : ℕ) (l : List (List Stamped)) → used_of n l ≤ n
used_of_most zero l = omega arith
used_of_most (suc n) [] = omega arith
used_of_most (suc n) (xs ∷ l) = omega (arith, used_most xs, used_of_most n l)

used_none : (n m : ℕ) → used_of n (replicate m []) ≡ 0
used_none zero m = refl
used_none (suc n) zero = refl
used_none (suc n) (suc m) = omega (arith, used_none n m)

lengths_set : {X : Type 0} (l : List (List X)) (i : ℕ) (ys : List X) → i < length l → lengths (set l i ys) + length (get_or l i []) ≡ lengths l + length ys
lengths_set [] i ys h = absurd (omega (arith, h))
lengths_set (xs ∷ l) zero ys h = omega arith
lengths_set (xs ∷ l) (suc i) ys h = omega (arith, lengths_set l i ys (omega (arith, h)))

lengths_none : (m : ℕ) → lengths (replicate {A = List ℕ} m []) ≡ 0
lengths_none zero = refl
lengths_none (suc m) = omega (arith, lengths_none m)

set_again : {X : Type 0} (l : List X) (i : ℕ) (x y : X) → set (set l i x) i y ≡ set l i y
set_again [] i x y = refl
set_again (z ∷ l) zero x y = refl
set_again (z ∷ l) (suc i) x y = ap (λ k. z ∷ k) (set_again l i x y)

-- ---- the queues in a list

in_some : (q : ℕ) (l : List (List ℕ)) (i : ℕ) → is_in q (get_or l i []) ≡ true → i < length l
in_some q [] i h = absurd (cc)
in_some q (xs ∷ l) zero h = omega arith
in_some q (xs ∷ l) (suc i) h = omega (arith, in_some q l i h)

or_second : (a b : Bool) → b ≡ true → (a || b) ≡ true
or_second true b e = refl
or_second false b e = e

in_removed : (r q : ℕ) (xs : List ℕ) (i : ℕ) → (r ≡ q → ⊥) → slice_get xs i ≡ Some q → is_in r xs ≡ true → is_in r (remove xs i) ≡ true
in_removed r q [] i ne at h = absurd (cc)
in_removed r q (x ∷ xs) zero ne at h = by (or_cases (x == r) (is_in r xs) h)
  where
    by : ((x == r) ≡ true) ⊎ (is_in r xs ≡ true) → is_in r xs ≡ true
    by (inl e) = let same : x ≡ q = cc in absurd (ne (sym (eqb-true x r e) ∙ same))
    by (inr e) = e
in_removed r q (x ∷ xs) (suc i) ne at h = by (or_cases (x == r) (is_in r xs) h) (in_removed r q xs i ne at)
  where
    by : ((x == r) ≡ true) ⊎ (is_in r xs ≡ true) → (is_in r xs ≡ true → is_in r (remove xs i) ≡ true) → ((x == r) || is_in r (remove xs i)) ≡ true
    by (inl e) rest = ap (λ b. b || is_in r (remove xs i)) e
    by (inr e) rest = or_second (x == r) (is_in r (remove xs i)) (rest e)

in_nowhere : (q : ℕ) (xs : List ℕ) → Each (λ j. (j == q) ≡ false) xs → is_in q xs ≡ false
in_nowhere q [] none = refl
in_nowhere q (x ∷ xs) none = ap (λ b. b || is_in q xs) none.0 ∙ in_nowhere q xs none.1

in_at : (q : ℕ) (xs : List ℕ) → is_in q xs ≡ true → (i : ℕ) × (slice_get xs i ≡ Some q)
in_at q [] h = absurd (cc)
in_at q (x ∷ xs) h = by (or_cases (x == q) (is_in q xs) h) (in_at q xs)
  where
    by : ((x == q) ≡ true) ⊎ (is_in q xs ≡ true) → (is_in q xs ≡ true → (i : ℕ) × (slice_get xs i ≡ Some q)) → (i : ℕ) × (slice_get (x ∷ xs) i ≡ Some q)
    by (inl e) rest = (0, ap Some (eqb-true x q e))
    by (inr e) rest = let r = rest e in (suc r.0, r.1)

in_last : (q : ℕ) (xs : List ℕ) → is_in q (xs ++ q ∷ []) ≡ true
in_last q [] = ap (λ b. b || false) (eq-eqb q q refl)
in_last q (x ∷ xs) = or_second (x == q) (is_in q (xs ++ q ∷ [])) (in_last q xs)

in_more : (q r : ℕ) (xs : List ℕ) → is_in q xs ≡ true → is_in q (xs ++ r ∷ []) ≡ true
in_more q r [] h = absurd (cc)
in_more q r (x ∷ xs) h = by (or_cases (x == q) (is_in q xs) h) (in_more q r xs)
  where
    by : ((x == q) ≡ true) ⊎ (is_in q xs ≡ true) → (is_in q xs ≡ true → is_in q (xs ++ r ∷ []) ≡ true) → ((x == q) || is_in q (xs ++ r ∷ [])) ≡ true
    by (inl e) rest = ap (λ b. b || is_in q (xs ++ r ∷ [])) e
    by (inr e) rest = or_second (x == q) (is_in q (xs ++ r ∷ [])) (rest e)

pub found_in : (q : ℕ) (xs : List ℕ) (i : ℕ) → Some i ≡ position (λ j. j == q) xs → slice_get xs i ≡ Some q
found_in q xs i e = let at = position-Some (λ j. j == q) xs i q (sym e) in slice_get-get_or xs i q at.0 ∙ ap Some (eqb-true (get_or xs i q) q at.1)

-- the first item is taken off
pub without_first : {X : Type 0} (xs : List X) → drop 1 xs ≡ remove xs 0
without_first [] = refl
without_first (x ∷ xs) = refl

-- ---- a queue changes

module _ (n : ℕ) (l : List (List Stamped)) (w : Pool ℕ) (h : IsListed n l w) (q : ℕ) (less : q < n) where
  there : q < length l
  there = omega (arith, less, h.slots)

  -- one queue and the lists change, and no other queue leaves a list
  changed : (ys : List Stamped) (v : Pool ℕ) → v.cells ≡ w.cells → length v.lists ≡ length w.lists → lengths v.lists + used (get_or l q []) ≡ lengths w.lists + used ys → IsHeld v.lists q ys
      → ((r s : ℕ) → (r ≡ q → ⊥) → is_in r (get_or w.lists s []) ≡ true → is_in r (get_or v.lists s []) ≡ true) → IsListed n (set l q ys) v
  changed ys v cells slots sum here others = record {
    slots = omega (arith, h.slots, slots, length-set l q ys);
    cells = cells ∙ h.cells;
    held = λ r below. by r below (cases_eq r q);
    sum = omega (arith, sum, h.sum, used_set n q l ys less there);
  }
    where
      kept : (r : ℕ) (xs : List Stamped) → (r ≡ q → ⊥) → IsHeld w.lists r xs → IsHeld v.lists r xs
      kept r [] ne k = tt
      kept r (x ∷ xs) ne k = others r x.to ne k

      by : (r : ℕ) → r < n → (r ≡ q) ⊎ (r ≡ q → ⊥) → IsHeld v.lists r (get_or (set l q ys) r [])
      by r below (inl e) = subst (λ j. IsHeld v.lists j (get_or (set l q ys) j [])) (sym e) (subst (λ z. IsHeld v.lists q z) (sym (get_or-set_same l q ys [] there)) here)
      by r below (inr ne) = subst (λ z. IsHeld v.lists r z) (sym (get_or-set_other l q r ys [] ne)) (kept r (get_or l r []) ne (h.held r below))

  -- the queue keeps its slot, so the lists stay right
  same_slot : (ys : List Stamped) → used (get_or l q []) ≡ used ys → IsHeld w.lists q ys → IsListed n (set l q ys) w
  same_slot ys u k = changed ys w refl refl (omega (arith, u)) k (λ r s ne i. i)

  -- it got its first message, to this slot, and is appended to the list of the slot
  appended : (x : Stamped) (to : ℕ) → x.to ≡ to → to < length w.lists → get_or l q [] ≡ [] → IsListed n (set l q (x ∷ [])) (with_list w to (list_of w to ++ q ∷ []))
  appended x to is slot empty =
      changed (x ∷ []) (with_list w to (list_of w to ++ q ∷ [])) refl (length-set w.lists to (list_of w to ++ q ∷ []))
      (omega (arith, ap used empty, lengths_set w.lists to (list_of w to ++ q ∷ []) slot, length-append (list_of w to) (q ∷ [])))
      (subst (λ s. is_in q (get_or (set w.lists to (list_of w to ++ q ∷ [])) s []) ≡ true) (sym is) (ap (is_in q) (get_or-set_same w.lists to (list_of w to ++ q ∷ []) [] slot) ∙ in_last q (list_of w to)))
      (λ r s ne i. by r s i (cases_eq s to))
    where
      by : (r s : ℕ) → is_in r (get_or w.lists s []) ≡ true → (s ≡ to) ⊎ (s ≡ to → ⊥) → is_in r (get_or (set w.lists to (list_of w to ++ q ∷ [])) s []) ≡ true
      by r s i (inl e) =
          ap (λ j. is_in r (get_or (set w.lists to (list_of w to ++ q ∷ [])) j [])) e ∙ ap (is_in r) (get_or-set_same w.lists to (list_of w to ++ q ∷ []) [] slot)
          ∙ in_more r q (list_of w to) (ap (λ j. is_in r (get_or w.lists j [])) (sym e) ∙ i)
      by r s i (inr ne) = ap (is_in r) (get_or-set_other w.lists to s (list_of w to ++ q ∷ []) [] ne) ∙ i

  -- there is room for it
  has_room : (x : Stamped) → get_or l q [] ≡ [] → 0 < free_of w
  has_room x empty = omega (arith, ap used empty, used_set n q l (x ∷ []) less there, used_of_most n (set l q (x ∷ [])), h.sum, h.cells)

  -- its last message left, and it is removed from the list of the slot
  dropped : (to place : ℕ) → slice_get (get_or w.lists to []) place ≡ Some q → used (get_or l q []) ≡ 1 → to < length w.lists → IsListed n (set l q []) (with_list w to (remove (list_of w to) place))
  dropped to place at one slot =
      changed [] (with_list w to (remove (list_of w to) place)) refl (length-set w.lists to (remove (list_of w to) place))
      (omega (arith, one, lengths_set w.lists to (remove (list_of w to) place) slot, length-remove (list_of w to) place (slice_get_within (list_of w to) place q at)))
      tt (λ r s ne i. by r s ne i (cases_eq s to))
    where
      by : (r s : ℕ) → (r ≡ q → ⊥) → is_in r (get_or w.lists s []) ≡ true → (s ≡ to) ⊎ (s ≡ to → ⊥) → is_in r (get_or (set w.lists to (remove (list_of w to) place)) s []) ≡ true
      by r s ne i (inl e) =
          ap (λ j. is_in r (get_or (set w.lists to (remove (list_of w to) place)) j [])) e ∙ ap (is_in r) (get_or-set_same w.lists to (remove (list_of w to) place) [] slot)
          ∙ in_removed r q (list_of w to) place ne at (ap (λ j. is_in r (get_or w.lists j [])) (sym e) ∙ i)
      by r s ne i (inr other) = ap (is_in r) (get_or-set_other w.lists to s (remove (list_of w to) place) [] other) ∙ i

-- a late queue changes
pub listed_late : (n : ℕ) (l : List (List Stamped)) (w : Pool ℕ) (q : ℕ) (ys : List Stamped) → n ≤ q → IsListed n l w → IsListed n (set l q ys) w
listed_late n l w q ys le h = record {
  slots = omega (arith, h.slots, length-set l q ys);
  cells = h.cells;
  held = λ r below. subst (λ z. IsHeld w.lists r z) (sym (get_or-set_other l q r ys [] (λ e. absurd (omega (arith, e, le, below))))) (h.held r below);
  sum = h.sum ∙ sym (used_beyond n q l ys le);
}

-- no queue has a message
pub listed_none : (n objects : ℕ) → IsListed n (replicate (n + objects) []) (pool (replicate objects []) n)
listed_none n objects = record {
  slots = omega (arith, length-replicate {A = List ℕ} objects [], length-replicate {A = List Stamped} (n + objects) []);
  cells = refl;
  held = λ q less. subst (λ z. IsHeld (replicate objects []) q z) (sym (get_or-replicate {A = List Stamped} (n + objects) q [] [] (omega (arith, less)))) tt;
  sum = lengths_none objects ∙ sym (used_none n (n + objects));
}

-- ---- a message came, or left

back : (l : List (List Stamped)) (q : ℕ) (xs ys : List Stamped) → get_or l q [] ≡ ys → set (set l q xs) q ys ≡ l
back l q xs ys is = set_again l q xs ys ∙ ap (set l q) (sym is) ∙ set-get_or l q []

-- a message was appended to a shared queue of its slot
pub posted : (l new : Lanes) (q to : ℕ) (x : Stamped) → IsListedIn l → q < shared l.cells → to < length l.waiting.lists → x.to ≡ to → may_hold (get_or l.pool.lists q []) to x.message.method.0 ≡ true
    → new.pool.lists ≡ set l.pool.lists q (get_or l.pool.lists q [] ++ x ∷ []) → new.waiting ≡ l.waiting → new.cells ≡ l.cells → IsPosted new q to
posted l new q to x h less slot is holds e f g =
    let lists = l.pool.lists in let xs = get_or lists q [] in record {
      former = xs;
      last = x;
      within = subst (λ c. q < shared c) (sym g) less;
      slot = subst (λ (w : Pool ℕ). to < length w.lists) (sym f) slot;
      is = ap (λ z. get_or z q []) e ∙ get_or-set_same lists q (xs ++ x ∷ []) [] (omega (arith, less, h.slots));
      last_to = is;
      same = λ y ys s. eqb-true y.to to (and_parts (y.to == to) (y.message.method.0 == x.message.method.0) (ap (λ z. may_hold z to x.message.method.0) (sym s) ∙ holds)).0;
      listed = subst (λ c. IsListed (shared c) (set new.pool.lists q xs) new.waiting) (sym g)
          (subst (λ w. IsListed (shared l.cells) (set new.pool.lists q xs) w) (sym f)
          (subst (λ z. IsListed (shared l.cells) z l.waiting) (sym (ap (λ z. set z q xs) e ∙ back lists q (xs ++ x ∷ []) xs refl)) h));
    }

-- all messages of a shared queue have the slot of its front message
each_slot : (x : Stamped) (xs : List Stamped) (i : ℕ) (y : Stamped) → IsChain (x ∷ xs) → slice_get (x ∷ xs) i ≡ Some y → y.to ≡ x.to
each_slot x xs zero y c at = let same : x ≡ y = cc in ap (λ (z : Stamped). z.to) (sym same)
each_slot x xs (suc i) y c at = each_at (λ z. z.to ≡ x.to) xs i y (each_map (Follows x) (λ z. z.to ≡ x.to) (λ z f. f.0) xs c.0) at
  where
    each_at : (P : Stamped → Type 0) (zs : List Stamped) (k : ℕ) (z : Stamped) → Each P zs → slice_get zs k ≡ Some z → P z
    each_at P [] k z h there = absurd (cc)
    each_at P (v ∷ zs) zero z h there = subst P (let same : v ≡ z = cc in same) h.0
    each_at P (v ∷ zs) (suc k) z h there = each_at P zs k z h.1 there

-- a message was removed from a shared queue
pub removed : (l new : Lanes) (q place : ℕ) (x : Stamped) → IsListedIn l → q < shared l.cells → IsChain (get_or l.pool.lists q []) → slice_get (get_or l.pool.lists q []) place ≡ Some x
    → new.pool.lists ≡ set l.pool.lists q (remove (get_or l.pool.lists q []) place) → new.waiting ≡ l.waiting → new.cells ≡ l.cells → IsRemoved new q x.to
removed l new q place x h less chain at e f g = by (get_or l.pool.lists q []) refl chain at
  where
    there : q < length l.pool.lists
    there = omega (arith, less, h.slots)

    front : (y : Stamped) (ys : List Stamped) (i : ℕ) → IsChain (y ∷ ys) → slice_get (y ∷ ys) i ≡ Some x → (z : Stamped) (zs : List Stamped) → remove (y ∷ ys) i ≡ z ∷ zs → z.to ≡ x.to
    front y ys zero c a z zs s = each_slot y ys 1 z c (ap (λ k. slice_get k 0) s) ∙ sym (each_slot y ys 0 x c a)
    front y ys (suc i) c a z zs s = (let same : y ≡ z = cc in ap (λ (v : Stamped). v.to) (sym same)) ∙ sym (each_slot y ys (suc i) x c a)

    by : (xs : List Stamped) → get_or l.pool.lists q [] ≡ xs → IsChain xs → slice_get xs place ≡ Some x → IsRemoved new q x.to
    by [] s c a = absurd (cc)
    by (y ∷ ys) s c a =
        let rest = remove (y ∷ ys) place in let now : new.pool.lists ≡ set l.pool.lists q rest = e ∙ ap (λ z. set l.pool.lists q (remove z place)) s in record {
          first = x;
          rest = rest;
          within = subst (λ k. q < shared k) (sym g) less;
          first_to = refl;
          same = λ z zs t. front y ys place c a z zs (sym (ap (λ k. get_or k q []) now ∙ get_or-set_same l.pool.lists q rest [] there) ∙ t);
          listed = subst (λ k. IsListed (shared k) (set new.pool.lists q (x ∷ rest)) new.waiting) (sym g)
              (subst (λ w. IsListed (shared l.cells) (set new.pool.lists q (x ∷ rest)) w) (sym f)
              (subst (λ z. IsListed (shared l.cells) z l.waiting) (sym (ap (λ z. set z q (x ∷ rest)) now ∙ set_again l.pool.lists q rest (x ∷ rest)))
              (same_slot (shared l.cells) l.pool.lists l.waiting h q less (x ∷ rest) (ap used s)
              (subst (λ k. is_in q (get_or l.waiting.lists k []) ≡ true) (sym (each_slot y ys place x c a)) (subst (λ z. IsHeld l.waiting.lists q z) s (h.held q less))))));
        }

module _ (l : Lanes) (q to : ℕ) where
  abbrev lists : List (List Stamped)
  lists = l.pool.lists

  abbrev n : ℕ
  n = shared l.cells

  module _ (p : IsPosted l q to) where
    abbrev before : List (List Stamped)
    before = set lists q p.former

    within_before : q < length lists
    within_before = let w = p.within in omega (arith, w, p.listed.slots, length-set lists q p.former)

    its : get_or before q [] ≡ p.former
    its = get_or-set_same lists q p.former [] within_before

    pub first_room : length (get_or lists q []) ≡ 1 → 0 < free_of l.waiting
    first_room one = has_room n before l.waiting p.listed q p.within p.last (its ∙ empty p.former (omega (arith, one, ap length p.is, length-append p.former (p.last ∷ []))))
      where
        empty : (xs : List Stamped) → length xs ≡ 0 → xs ≡ []
        empty [] e = refl
        empty (x ∷ xs) e = absurd (omega (arith, e))

    pub first_listed : (v : Pool ℕ) → length (get_or lists q []) ≡ 1 → v ≡ with_list l.waiting to (list_of l.waiting to ++ q ∷ []) → IsListed n lists v
    first_listed v one is = by p.former refl
      where
        by : (xs : List Stamped) → p.former ≡ xs → IsListed n lists v
        by [] e =
            subst (λ z. IsListed n z v) (back lists q p.former (p.last ∷ []) (p.is ∙ ap (λ z. z ++ p.last ∷ []) e))
            (subst (λ z. IsListed n (set before q (p.last ∷ [])) z) (sym is) (appended n before l.waiting p.listed q p.within p.last to p.last_to p.slot (its ∙ e)))
        by (x ∷ xs) e = absurd (omega (arith, one, ap length p.is, length-append p.former (p.last ∷ []), ap length e))

    pub more_listed : (length (get_or lists q []) ≡ 1 → ⊥) → IsListed n lists l.waiting
    more_listed many = by p.former refl
      where
        by : (xs : List Stamped) → p.former ≡ xs → IsListed n lists l.waiting
        by [] e = absurd (many (ap length (p.is ∙ ap (λ z. z ++ p.last ∷ []) e)))
        by (x ∷ xs) e =
            let is : get_or lists q [] ≡ x ∷ (xs ++ p.last ∷ []) = p.is ∙ ap (λ z. z ++ p.last ∷ []) e in
            subst (λ z. IsListed n z l.waiting) (back lists q p.former (x ∷ (xs ++ p.last ∷ [])) is)
            (same_slot n before l.waiting p.listed q p.within (x ∷ (xs ++ p.last ∷ [])) (ap used (its ∙ e)) (subst (λ z. IsHeld l.waiting.lists q z) (its ∙ e) (p.listed.held q p.within)))

  module _ (r : IsRemoved l q to) where
    abbrev whole : List (List Stamped)
    whole = set lists q (r.first ∷ r.rest)

    within_whole : q < length lists
    within_whole = let w = r.within in omega (arith, w, r.listed.slots, length-set lists q (r.first ∷ r.rest))

    it : get_or whole q [] ≡ r.first ∷ r.rest
    it = get_or-set_same lists q (r.first ∷ r.rest) [] within_whole

    held : is_in q (get_or l.waiting.lists to []) ≡ true
    held = subst (λ s. is_in q (get_or l.waiting.lists s []) ≡ true) r.first_to (subst (λ z. IsHeld l.waiting.lists q z) it (r.listed.held q r.within))

    pub held_slot : to < length l.waiting.lists
    held_slot = in_some q l.waiting.lists to held

    pub still_listed : 0 < length (get_or lists q []) → IsListed n lists l.waiting
    still_listed some = by (get_or lists q []) refl
      where
        by : (xs : List Stamped) → get_or lists q [] ≡ xs → IsListed n lists l.waiting
        by [] e = absurd (omega (arith, some, ap length e))
        by (x ∷ xs) e =
            subst (λ z. IsListed n z l.waiting) (back lists q (r.first ∷ r.rest) (x ∷ xs) e)
            (same_slot n whole l.waiting r.listed q r.within (x ∷ xs) (ap used it) (subst (λ s. is_in q (get_or l.waiting.lists s []) ≡ true) (sym (r.same x xs e)) held))

    pub gone_listed : (v : Pool ℕ) (place : ℕ) → length (get_or lists q []) ≡ 0 → slice_get (list_of l.waiting to) place ≡ Some q → v ≡ with_list l.waiting to (remove (list_of l.waiting to) place) → IsListed n lists v
    gone_listed v place none at is = by (get_or lists q []) refl
      where
        by : (xs : List Stamped) → get_or lists q [] ≡ xs → IsListed n lists v
        by (x ∷ xs) e = absurd (omega (arith, none, ap length e))
        by [] e =
            subst (λ z. IsListed n z v) (back lists q (r.first ∷ r.rest) [] e)
            (subst (λ z. IsListed n (set whole q []) z) (sym is) (dropped n whole l.waiting r.listed q r.within to place at (ap used it) held_slot))

    pub is_there : None ≡ position (λ j. j == q) (list_of l.waiting to) → ⊥
    is_there none = let no = in_nowhere q (list_of l.waiting to) (none_passes (λ j. j == q) (list_of l.waiting to) (sym none)) in let yes = held in cc

-- ---- the earliest message, by the queues that are listed

module _ (n : ℕ) (l : List (List Stamped)) (w : Pool ℕ) (h : IsListed n l w) (chains : (q : ℕ) → q < n → IsChain (get_or l q [])) (to : ℕ) (names : List NameId) where
  abbrev all : List ℕ
  all = list_of w to

  abbrev Wanted : Stamped → Type 0
  Wanted x = (x.to ≡ to) × (is_named names x.message.method ≡ true)

  -- a message behind a front message has its slot and its method
  front_wanted : (x y : Stamped) → Follows x y → Wanted y → Wanted x
  front_wanted x y f g = (sym f.0 ∙ g.0, ap (λ k. list_any (λ (m : NameId). m.0 == k) names) (sym f.1) ∙ g.1)

  shown : (q : ℕ) (x : Stamped) (xs : List Stamped) → q < n → get_or l q [] ≡ x ∷ xs → Wanted x → named_stamp l n to names q ≡ Some x.stamp
  shown q x xs less is g =
      ap (λ b. cond b (stamp_if_named to names (get_or l q [])) None) (lt-ltb q n less) ∙ ap (stamp_if_named to names) is
      ∙ ap (λ b. cond b (Some x.stamp) None) (and_from (x.to == to) (is_named names x.message.method) (eq-eqb x.to to g.0) g.1)

  -- a queue with a message that is wanted is in the list
  listed_at : (q : ℕ) (x : Stamped) (xs : List Stamped) → q < n → get_or l q [] ≡ x ∷ xs → Wanted x → (i : ℕ) × (slice_get all i ≡ Some q)
  listed_at q x xs less is g = in_at q all (subst (λ s. is_in q (get_or w.lists s []) ≡ true) g.0 (subst (λ z. IsHeld w.lists q z) is (h.held q less)))

  -- what is so of a front message that is wanted is so of each message of the queue
  each_front : (P : Stamped → Type 0) → ((x y : Stamped) → Follows x y → P x → P y) → (q : ℕ) → q < n → ((x : Stamped) (xs : List Stamped) → get_or l q [] ≡ x ∷ xs → Wanted x → P x)
      → Each (λ y. Wanted y → P y) (get_or l q [])
  each_front P goes q less first = by (get_or l q []) refl (chains q less)
    where
      by : (xs : List Stamped) → get_or l q [] ≡ xs → IsChain xs → Each (λ y. Wanted y → P y) xs
      by [] e c = tt
      by (x ∷ xs) e c = (first x xs e, each_map (Follows x) (λ y. Wanted y → P y) (λ y f g. goes x y f (first x xs e (front_wanted x y f g))) xs c.0)

  abbrev Shows : ℕ → Option ℕ → Type 0
  Shows q o = o ≡ named_stamp l n to names q

  pub none_waits : IsLeast Shows all None → IsFound l n (Named to names) None
  none_waits none = record {
    none = λ q less. each_front (λ y. ⊥) (λ x y f no. no) q less
        (λ x xs is g. let i = listed_at q x xs less is g in
        let no : None ≡ Some x.stamp = none i.0 q (slice_get_within all i.0 q i.1) i.1 ∙ shown q x xs less is g in cc);
  }

  pub earliest_waits : (b : ℕ × ℕ) → IsLeast Shows all (Some b) → (q : ℕ) → slice_get all b.0 ≡ Some q → IsFound l n (Named to names) (Some (q, b.1))
  earliest_waits b (p, at, has, others) q is = by (ltb q n) refl
    where
      known : Some b.1 ≡ named_stamp l n to names q
      known = let same : p ≡ q = cc in has ∙ ap (named_stamp l n to names) same

      least : (r : ℕ) → r < n → Each (λ y. Wanted y → b.1 ≤ y.stamp) (get_or l r [])
      least r less = each_front (λ y. b.1 ≤ y.stamp) (λ x y f le. let later = f.2 in omega (arith, later, le)) r less (λ x xs e g. first x xs e g (listed_at r x xs less e g))
        where
          first : (x : Stamped) (xs : List Stamped) → get_or l r [] ≡ x ∷ xs → Wanted x → (i : ℕ) × (slice_get all i ≡ Some r) → b.1 ≤ x.stamp
          first x xs e g i = one (others i.0 r (slice_get_within all i.0 r i.1) i.1)
            where
              one : Shows r None ⊎ ((key : ℕ) × Shows r (Some key) × (b.1 ≤ key)) → b.1 ≤ x.stamp
              one (inl none) = let no : None ≡ Some x.stamp = none ∙ shown r x xs less e g in absurd (cc)
              one (inr (key, some, le)) = let same : key ≡ x.stamp = let s : Some key ≡ Some x.stamp = some ∙ shown r x xs less e g in cc in omega (arith, same, le)

      found : (x : Stamped) (xs : List Stamped) (c : Bool) → q < n → get_or l q [] ≡ x ∷ xs → ((x.to == to) && is_named names x.message.method) ≡ c → Some b.1 ≡ cond c (Some x.stamp) None → IsFound l n (Named to names) (Some (q, b.1))
      found x xs false less e t k = absurd (cc)
      found x xs true less e t k =
          let parts = and_parts (x.to == to) (is_named names x.message.method) t in record {
            first = x;
            rest = xs;
            within = less;
            is = e;
            stamp = let same : Some x.stamp ≡ Some b.1 = sym k in cc;
            wanted = (eqb-true x.to to parts.0, parts.1);
            least = least;
          }

      front : (xs : List Stamped) → q < n → get_or l q [] ≡ xs → Some b.1 ≡ stamp_if_named to names xs → IsFound l n (Named to names) (Some (q, b.1))
      front [] less e k = absurd (cc)
      front (x ∷ xs) less e k = found x xs ((x.to == to) && is_named names x.message.method) less e refl k

      by : (c : Bool) → ltb q n ≡ c → IsFound l n (Named to names) (Some (q, b.1))
      by false e = let no : Some b.1 ≡ None = known ∙ ap (λ c. cond c (stamp_if_named to names (get_or l q [])) None) e in absurd (cc)
      by true e = front (get_or l q []) (ltb-true q n e) refl (known ∙ ap (λ c. cond c (stamp_if_named to names (get_or l q [])) None) e)
