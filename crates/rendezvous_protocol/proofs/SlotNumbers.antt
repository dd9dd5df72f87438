-- Issuing and settling a number keep the invariant of the outstanding numbers.
use Rattle.std.proofs.Common.{◌≡◌, ◌≢◌, ◌⊎◌, inl, inr, refl, sym, ap, ◌∙◌, ℕ, ◌+◌, ◌^◌, ◌<◌, ◌≤◌, ◌==◌, List, [], length, set, replicate, cond, get_or, Option, Some, None, is_some, Bool, true, false, slice_get, count_by, arith}
use Rattle.std.specs.List.{list_any}
use Rattle.std.proofs.lemmas.Bool.Decides.{eqb_tells}
use Rattle.std.proofs.lemmas.Option.{slice_get_within, get_or_from_slice_get}
use Rattle.std.proofs.lemmas.List.{length-set, length-replicate}
use Rattle.std.proofs.lemmas.List.Sums.{sum_by-set, count_by-le-length}
use Rattle.std.proofs.lemmas.List.Folds.{sum_by-replicate}
use Rattle.slab.specs.Slab.{Slab, get, slab_len, Updates}
use Rattle.rendezvous_protocol.specs.Numbers.{is_number}
use Rattle.rendezvous_protocol.specs.Outstanding.{AreOut}
use Rattle.rendezvous_protocol.proofs.ListUpdate.{same_some, at_same, at_other, in_row, found, place_of}

-- the count after a value was put
counted : (xs : List (Option ℕ)) (i : ℕ) (x y : Option ℕ) → slice_get xs i ≡ Some x
    → count_by is_some (set xs i y) + cond (is_some x) 1 0 ≡ count_by is_some xs + cond (is_some y) 1 0
counted xs i x y e =
    let is : get_or xs i None ≡ x = get_or_from_slice_get xs i x None e in
    let sum = sum_by-set (λ o. cond (is_some o) 1 0) xs i y None (slice_get_within xs i x e) in
    rw (← is) sum

-- where a slot has no number there is room for one more
pub has_room : (s : Slab ℕ) (xs : List (Option ℕ)) (i : ℕ) → AreOut s xs → slice_get xs i ≡ Some None → slab_len s + 1 ≤ s.capacity
has_room s xs i out e =
    omega (arith, out.many, out.room, counted xs i None (Some 0) e, count_by-le-length is_some (set xs i (Some 0)), length-set xs i (Some 0))

pub starts : (s : Slab ℕ) (xs : List (Option ℕ)) (n : ℕ) → s.slots ≡ [] → n ≤ s.capacity → s.capacity < 2 ^ 32 → xs ≡ replicate n None → AreOut s xs
starts s xs n none room narrow row =
    record {
      forth = λ m k e. absurd (let q : get s m ≡ None = rw none refl in cc);
      back = λ m k e. absurd (let q : Some m ≡ None = in_row n k None (Some m) (rw row at e) in cc);
      many = rw (none, row) (sym (sum_by-replicate (λ o. cond (is_some o) 1 0) n None ∙ omega arith));
      room = omega (arith, room, ap length row, length-replicate {A = Option ℕ} n None);
      narrow = narrow;
    }

pub issued : (s t : Slab ℕ) (xs : List (Option ℕ)) (i n : ℕ) → AreOut s xs → slice_get xs i ≡ Some None → get s n ≡ None → Updates s t n (Some i)
    → slab_len t ≡ slab_len s + 1 → t.capacity ≡ s.capacity → AreOut t (set xs i (Some n))
issued s t xs i n out e new up len size =
    record {
      forth = λ m k g. forth m k g (eqb_tells m n);
      back = λ m k g. back m k g (eqb_tells k i);
      many = omega (arith, len, out.many, counted xs i None (Some n) e);
      room = omega (arith, size, out.room, length-set xs i (Some n));
      narrow = rw size out.narrow;
    }
  where
    forth : (m k : ℕ) → get t m ≡ Some k → ((m == n) ≡ true) × (m ≡ n) ⊎ ((m == n) ≡ false) × (m ≢ n) → slice_get (set xs i (Some n)) k ≡ Some (Some m)
    forth m k g (inl p) =
        let q : get t n ≡ Some k = rw p.1 at g in
        let at : i ≡ k = same_some (sym up.changed ∙ q) in
        rw (← at, p.1) (at_same xs i (Some n) (slice_get_within xs i None e))
    forth m k g (inr p) =
        let was = out.forth m k (sym (up.others m p.1) ∙ g) in
        at_other xs i k (Some n) (λ h. absurd (let q : slice_get xs i ≡ Some (Some m) = rw h at was in cc)) ∙ was

    back : (m k : ℕ) → slice_get (set xs i (Some n)) k ≡ Some (Some m) → ((k == i) ≡ true) × (k ≡ i) ⊎ ((k == i) ≡ false) × (k ≢ i) → get t m ≡ Some k
    back m k g (inl p) =
        let q : slice_get (set xs i (Some n)) i ≡ Some (Some m) = rw p.1 at g in
        let at : n ≡ m = same_some (same_some (sym (at_same xs i (Some n) (slice_get_within xs i None e)) ∙ q)) in
        rw (← at, p.1) up.changed
    back m k g (inr p) =
        let was = out.back m k (sym (at_other xs i k (Some n) p.1) ∙ g) in
        up.others m (λ h. absurd (let q : get s n ≡ Some k = rw h at was in cc)) ∙ was

pub settled : (s t : Slab ℕ) (xs : List (Option ℕ)) (i n : ℕ) → AreOut s xs → get s n ≡ Some i → Updates s t n None
    → slab_len t + 1 ≡ slab_len s → t.capacity ≡ s.capacity → AreOut t (set xs i None)
settled s t xs i n out e up len size =
    record {
      forth = λ m k g. forth m k g (eqb_tells m n);
      back = λ m k g. back m k g (eqb_tells k i);
      many = omega (arith, len, out.many, counted xs i (Some n) None (out.forth n i e));
      room = omega (arith, size, out.room, length-set {A = Option ℕ} xs i None);
      narrow = rw size out.narrow;
    }
  where
    forth : (m k : ℕ) → get t m ≡ Some k → ((m == n) ≡ true) × (m ≡ n) ⊎ ((m == n) ≡ false) × (m ≢ n) → slice_get (set xs i None) k ≡ Some (Some m)
    forth m k g (inl p) = absurd (let q : get t n ≡ Some k = rw p.1 at g in let r = up.changed in cc)
    forth m k g (inr p) =
        let was = out.forth m k (sym (up.others m p.1) ∙ g) in
        at_other xs i k None (λ h. p.1 (let q : slice_get xs i ≡ Some (Some m) = rw h at was in same_some (same_some (sym q ∙ out.forth n i e)))) ∙ was

    back : (m k : ℕ) → slice_get (set xs i None) k ≡ Some (Some m) → ((k == i) ≡ true) × (k ≡ i) ⊎ ((k == i) ≡ false) × (k ≢ i) → get t m ≡ Some k
    back m k g (inl p) =
        absurd (let q : slice_get (set xs i None) i ≡ Some (Some m) = rw p.1 at g in
        let r = at_same xs i None (slice_get_within xs i (Some n) (out.forth n i e)) in cc)
    back m k g (inr p) =
        let was = out.back m k (sym (at_other xs i k None p.1) ∙ g) in
        up.others m (λ h. p.1 (let q : get s n ≡ Some k = rw h at was in same_some (sym q ∙ e))) ∙ was

-- a number is out where the slab has a slot under it
pub is_out_there : (s : Slab ℕ) (xs : List (Option ℕ)) (n : ℕ) → AreOut s xs → is_some (get s n) ≡ list_any (is_number n) xs
is_out_there s xs n out = by (get s n) refl (list_any (is_number n) xs) refl
  where
    by : (o : Option ℕ) → get s n ≡ o → (b : Bool) → list_any (is_number n) xs ≡ b → is_some o ≡ b
    by (Some k) e b h = sym (found n k xs (out.forth n k e)) ∙ h
    by None e false h = refl
    by None e true h = absurd (let r = place_of n xs h in let q = out.back n r.0 r.1 in cc)
