-- If the computed test of a code succeeds, the code is well sorted.
use Rattle.std.proofs.Common.{◌≡◌, ◌≢◌, ◌⊎◌, inl, inr, refl, sym, ap, subst, ◌∙◌, ℕ, zero, suc, ◌+◌, ◌==◌, ◌<◌, ◌≤◌, List, [], ◌∷◌, length, Option, Some, None, Bool, true, false, not, ◌&&◌, ◌||◌, arith, ltb-true, leb-true}
use Rattle.std.specs.Prelude.{slice_get, nat_le, nat_lt, max, drop, is_none, ◌^◌}
use Rattle.std.specs.List.{list_all, list_any}
use Rattle.run_types.specs.declared.types.NameId.{NameId}
use Rattle.text_scan.specs.Keywords.{is_string_text}
use Rattle.run_types.specs.Sorts.{Sort}
use Rattle.run_types.proofs.Laws.{first, second, equal, equals, same_some, pigeons, not_true}
use Rattle.code_semantics.specs.declared.unit.Instr.{Instr}
use Rattle.code_semantics.specs.declared.unit.Instr.TheVariants as I
use Rattle.code_semantics.specs.declared.unit.AltCode.{AltCode}
use Rattle.code_semantics.specs.ReachedPlaces.{AreOwn, AnswerOwn, AltsExist, Exists, silent_to, Chain}
use Rattle.code_typing.specs.Sorts.{Stack, CodeScope}
use Rattle.code_typing.specs.Verified.{Reached, IsText, last_instr, EndsRight, IsWellSorted}
use Rattle.code_typing.specs.Verdict.{Table, most, is_own, answers_exist, alternative_exists, does_exist, is_ret, is_halt, is_last, ends_right, silence_ends, has_no_circle, has_table, table_of, is_well_sorted, is_post}
use Rattle.code_typing.proofs.TextNumbers.{passes_below}
use Rattle.code_typing.proofs.ReachedStacks.{shown_comes, comes_shown, table_is_one, table_taken, table_exists}

-- tests of all and of any
all_at : {X : Type 0} (p : X → Bool) (xs : List X) (n : ℕ) (x : X) → list_all p xs ≡ true → slice_get xs n ≡ Some x → p x ≡ true
all_at p [] n x h e = absurd (let z : None ≡ Some x = e in cc)
all_at p (y ∷ xs) zero x h e = ap p (sym (same_some e)) ∙ first (p y) (list_all p xs) h
all_at p (y ∷ xs) (suc n) x h e = all_at p xs n x (second (p y) (list_all p xs) h) e

none_at : {X : Type 0} (p : X → Bool) (xs : List X) (n : ℕ) (x : X) → list_any p xs ≡ false → slice_get xs n ≡ Some x → p x ≡ false
none_at p [] n x h e = absurd (let z : None ≡ Some x = e in cc)
none_at p (y ∷ xs) zero x h e = ap p (sym (same_some e)) ∙ left (p y) (list_any p xs) h
  where
    left : (a b : Bool) → (a || b) ≡ false → a ≡ false
    left false b h = refl
    left true b h = absurd (let z : true ≡ false = h in cc)
none_at p (y ∷ xs) (suc n) x h e = none_at p xs n x (right (p y) (list_any p xs) h) e
  where
    right : (a b : Bool) → (a || b) ≡ false → b ≡ false
    right false b h = h
    right true b h = absurd (let z : true ≡ false = h in cc)

module _ (g : CodeScope) (c : List Instr) where
  own_are : (ms : List NameId) → list_all (is_own g) ms ≡ true → AreOwn (Some g.class.code) ms
  own_are [] h = tt
  own_are (m ∷ ms) h = (first (is_own g m) (list_all (is_own g) ms) h, own_are ms (second (is_own g m) (list_all (is_own g) ms) h))

  answer_are : (a : Option (List NameId)) → answers_exist g a ≡ true → AnswerOwn (Some g.class.code) a
  answer_are None h = tt
  answer_are (Some ms) h = own_are ms h

  alts_are : (alts : List AltCode) → list_all (alternative_exists g c) alts ≡ true → AltsExist (Some g.class.code) c alts
  alts_are [] h = tt
  alts_are (a ∷ alts) h =
      let x = first (alternative_exists g c a) (list_all (alternative_exists g c) alts) h in (
        answer_are a.answer (second (nat_lt a.at (length c)) (answers_exist g a.answer) x),
        ltb-true a.at (length c) (first (nat_lt a.at (length c)) (answers_exist g a.answer) x),
        alts_are alts (second (alternative_exists g c a) (list_all (alternative_exists g c) alts) h),
      )

  -- what an instruction names is there
  exist_is : (i : Instr) → does_exist g c i ≡ true → Exists g.file.unit (Some g.class.code) (length g.temps) c i × IsText g.file i
  exist_is (I.PushInt z) h = (tt, tt)
  exist_is (I.PushBool b) h = (tt, tt)
  exist_is I.PushNil h = (tt, tt)
  exist_is (I.Jump a) h = (ltb-true a (length c) h, tt)
  exist_is (I.LoadI n) h = (ltb-true n g.class.code.vars h, tt)
  exist_is (I.LoadT n) h = (ltb-true n (length g.temps) h, tt)
  exist_is I.SelfRef h = (tt, tt)
  exist_is (I.StoreI n) h = (ltb-true n g.class.code.vars h, tt)
  exist_is (I.StoreT n) h = (ltb-true n (length g.temps) h, tt)
  exist_is (I.Oper op) h = (tt, tt)
  exist_is I.Pop h = (tt, tt)
  exist_is (I.Branch a) h = (ltb-true a (length c) h, tt)
  exist_is I.Loop h = (tt, tt)
  exist_is (I.Call m) h = ((h, tt), tt)
  exist_is I.Ret h = (tt, tt)
  exist_is (I.New k) h = (h, tt)
  exist_is (I.Send m n) h =
      ((ltb-true m.0 (length g.file.unit.names) (first (nat_lt m.0 (length g.file.unit.names)) (nat_le n 8) h), leb-true n 8 (second (nat_lt m.0 (length g.file.unit.names)) (nat_le n 8) h)), tt)
  exist_is (I.Async m n) h =
      ((ltb-true m.0 (length g.file.unit.names) (first (nat_lt m.0 (length g.file.unit.names)) (nat_le n 8) h), leb-true n 8 (second (nat_lt m.0 (length g.file.unit.names)) (nat_le n 8) h)), tt)
  exist_is I.Write h = (tt, tt)
  exist_is (I.WriteText s) h = (passes_below is_string_text g.file.unit.names s.0 h, h)
  exist_is (I.Answer ms) h = (own_are ms h, tt)
  exist_is (I.Select alts) h = (alts_are alts h, tt)
  exist_is I.Halt h = (tt, tt)
  exist_is I.Post h = (tt, tt)

  halt_is : (i : Instr) → is_halt i ≡ true → i ≡ I.Halt
  halt_is I.Halt h = refl
  halt_is _ h = absurd (let z : false ≡ true = h in cc)

  post_is : (i : Instr) → is_post i ≡ true → i ≡ I.Post
  post_is I.Post h = refl
  post_is _ h = absurd (let z : false ≡ true = h in cc)

  ret_is : (i : Instr) → is_ret i ≡ true → i ≡ I.Ret
  ret_is I.Ret h = refl
  ret_is _ h = absurd (let z : false ≡ true = h in cc)

  last_is : (p : Instr → Bool) (d : Instr) → ((i : Instr) → p i ≡ true → i ≡ d) → (is : List Instr) → is_last p is ≡ true → last_instr is ≡ Some d
  last_is p d f [] h = absurd (let z : false ≡ true = h in cc)
  last_is p d f (i ∷ []) h = ap Some (f i h)
  last_is p d f (i ∷ j ∷ is) h = last_is p d f (j ∷ is) h

  ends_are : (v : Option Sort) → ends_right v c ≡ true → EndsRight v c
  ends_are None h =
      let none = second (is_last is_halt c) (not (list_any is_ret c) && not (list_any is_post c)) h in (
        last_is is_halt I.Halt halt_is c (first (is_last is_halt c) (not (list_any is_ret c) && not (list_any is_post c)) h),
        λ at e. let z : true ≡ false = none_at is_ret c at I.Ret (not_true (list_any is_ret c) (first (not (list_any is_ret c)) (not (list_any is_post c)) none)) e in cc,
        λ at e. let z : true ≡ false = none_at is_post c at I.Post (not_true (list_any is_post c) (second (not (list_any is_ret c)) (not (list_any is_post c)) none)) e in cc,
      )
  ends_are (Some s) h = (
    last_is is_ret I.Ret ret_is c (first (is_last is_ret c) (not (list_any is_halt c)) h),
    λ at e. let z : true ≡ false = none_at is_halt c at I.Halt (not_true (list_any is_halt c) (second (is_last is_ret c) (not (list_any is_halt c)) h)) e in cc,
  )

  -- silent instructions
  pub chain_goes_on : (n : ℕ) (a b : ℕ) → Chain c n a b → silence_ends n c (Some a) ≡ false
  chain_goes_on zero a b h = refl
  chain_goes_on (suc n) a b h = ap (silence_ends n c) h.1 ∙ chain_goes_on n h.0 b h.2

  chain_joins : (n m a b d : ℕ) → Chain c n a b → Chain c m b d → Chain c (n + m) a d
  chain_joins zero m a b d h k = subst (λ n. Chain c n a d) (let z : m ≡ 0 + m = omega arith in z) (subst (λ x. Chain c m x d) (sym h) k)
  chain_joins (suc n) m a b d h k = subst (λ l. Chain c l a d) (let z : suc (n + m) ≡ suc n + m = omega arith in z) (h.0, h.1, chain_joins n m h.0 b d h.2 k)

  pub chain_front : (n m a d : ℕ) → Chain c (n + m) a d → (b : ℕ) × Chain c n a b
  chain_front zero m a d h = (a, refl)
  chain_front (suc n) m a d h =
      let k = subst (λ l. Chain c l a d) (let z : suc n + m ≡ suc (n + m) = omega arith in z) h in
      let r = chain_front n m k.0 d k.2 in
      (r.0, (k.0, k.1, r.1))

  -- round a circle so often
  pub rounds : (n a : ℕ) → Chain c (suc n) a a → (l : ℕ) → (m : ℕ) × Chain c (l + m) a a
  rounds n a h zero = (0, refl)
  rounds n a h (suc l) =
      let r = rounds n a h l in
      (r.0 + n, subst (λ x. Chain c x a a) (let m = r.0 in let z : suc n + (l + m) ≡ suc l + (m + n) = omega arith in z) (chain_joins (suc n) (l + r.0) a a a h r.1))

  pub silent_within : (a m : ℕ) → silent_to a (slice_get c a) ≡ Some m → a < length c
  silent_within a m e = by (slice_get c a) refl e
    where
      below : (is : List Instr) (n : ℕ) (i : Instr) → slice_get is n ≡ Some i → n < length is
      below [] n i e = absurd (let z : None ≡ Some i = e in cc)
      below (j ∷ is) zero i e = omega arith
      below (j ∷ is) (suc n) i e = let h = below is n i e in omega (arith, h)

      by : (o : Option Instr) → slice_get c a ≡ o → silent_to a o ≡ Some m → a < length c
      by None q h = absurd (let z : None ≡ Some m = h in cc)
      by (Some i) q h = below c a i q

  pub circle_at : (is : List Instr) (at n : ℕ) → n < length is → has_no_circle c is at ≡ true → silence_ends (suc (length c)) c (Some (at + n)) ≡ true
  circle_at [] at n lt h = absurd (omega (arith, lt))
  circle_at (i ∷ is) at zero lt h =
      ap (λ z. silence_ends (suc (length c)) c (Some z)) (let z : at + 0 ≡ at = omega arith in z) ∙ first (silence_ends (suc (length c)) c (Some at)) (has_no_circle c is (suc at)) h
  circle_at (i ∷ is) at (suc n) lt h =
      ap (λ z. silence_ends (suc (length c)) c (Some z)) (let z : at + suc n ≡ suc at + n = omega arith in z)
      ∙ circle_at is (suc at) n (omega (arith, lt)) (second (silence_ends (suc (length c)) c (Some at)) (has_no_circle c is (suc at)) h)

  pub no_circle_is : has_no_circle c c 0 ≡ true → (at n : ℕ) → ¬ (Chain c (suc n) at at)
  no_circle_is h at n k =
      let lt = silent_within at k.0 k.1 in
      let r = rounds n at k (suc (length c)) in
      let f = chain_front (suc (length c)) r.0 at at r.1 in
      let x = chain_goes_on (suc (length c)) at f.0 f.1 in
      let y = circle_at c 0 at lt h in
      let z : true ≡ false = sym y ∙ ap (λ m. silence_ends (suc (length c)) c (Some m)) (let w : 0 + at ≡ at = omega arith in w) ∙ x in cc

  -- the most operands
  bound_is : (t : Table) (at : ℕ) (s : Stack) → slice_get t at ≡ Some (Some s) → length s ≤ most t
  bound_is [] at s e = absurd (let z : None ≡ Some (Some s) = e in cc)
  bound_is (None ∷ t) zero s e = absurd (let z : None ≡ Some s = same_some e in cc)
  bound_is (Some r ∷ t) zero s e = let z : length r ≡ length s = ap (λ (x : Stack). length x) (same_some (same_some e)) in let m = max_is (length r) (most t) in let a = m.0 in omega (arith, z, a)
    where
      max_is : (m n : ℕ) → (m ≤ max m n) × (n ≤ max m n)
      max_is m n = (omega arith, omega arith)
  bound_is (None ∷ t) (suc at) s e = bound_is t at s e
  bound_is (Some r ∷ t) (suc at) s e = let h = bound_is t at s e in omega (arith, h)

  met_is : (t : Table) → (most t ≡ 0) ⊎ ((at : ℕ) × (s : Stack) × (slice_get t at ≡ Some (Some s)) × (length s ≡ most t))
  met_is [] = inl refl
  met_is (None ∷ t) = up (met_is t)
    where
      up : (most t ≡ 0) ⊎ ((at : ℕ) × (s : Stack) × (slice_get t at ≡ Some (Some s)) × (length s ≡ most t))
          → (most t ≡ 0) ⊎ ((at : ℕ) × (s : Stack) × (slice_get (None ∷ t) at ≡ Some (Some s)) × (length s ≡ most t))
      up (inl e) = inl e
      up (inr h) = inr (suc h.0, h.1, h.2, h.3)
  met_is (Some r ∷ t) = by (nat_le (length r) (most t)) refl (met_is t)
    where
      by : (b : Bool) → nat_le (length r) (most t) ≡ b → (most t ≡ 0) ⊎ ((at : ℕ) × (s : Stack) × (slice_get t at ≡ Some (Some s)) × (length s ≡ most t))
          → (max (length r) (most t) ≡ 0) ⊎ ((at : ℕ) × (s : Stack) × (slice_get (Some r ∷ t) at ≡ Some (Some s)) × (length s ≡ max (length r) (most t)))
      by true q (inl e) = let le = leb-true (length r) (most t) q in inl (omega (arith, e, le))
      by true q (inr h) = let le = leb-true (length r) (most t) q in let k = h.3 in inr (suc h.0, h.1, h.2, omega (arith, k, le))
      by false q h = let lt : most t < length r = grind (arith, q) in inr (0, r, refl, omega (arith, lt))

  none_past : (n : ℕ) (t : Table) (at : ℕ) (s : Stack) → list_all is_none (drop n t) ≡ true → slice_get t at ≡ Some (Some s) → at < n
  none_past zero t at s h e = absurd (let z : false ≡ true = all_at is_none t at (Some s) h e in cc)
  none_past (suc n) [] at s h e = absurd (let z : None ≡ Some (Some s) = e in cc)
  none_past (suc n) (x ∷ t) zero s h e = omega arith
  none_past (suc n) (x ∷ t) (suc at) s h e = let r = none_past n t at s h e in omega (arith, r)

  -- the test says it
  pub test_is_right : (words : ℕ) → is_well_sorted g words c ≡ true → IsWellSorted g words c
  test_is_right words h =
      let h3 = first (list_all (does_exist g c) c && ends_right g.value c && has_no_circle c c 0) (has_table g words (table_of g c)) h in
      let h2 = first (list_all (does_exist g c) c && ends_right g.value c) (has_no_circle c c 0) h3 in
      by (table_of g c) refl (second (list_all (does_exist g c) c && ends_right g.value c && has_no_circle c c 0) (has_table g words (table_of g c)) h)
      (first (list_all (does_exist g c) c) (ends_right g.value c) h2) (second (list_all (does_exist g c) c) (ends_right g.value c) h2)
      (second (list_all (does_exist g c) c && ends_right g.value c) (has_no_circle c c 0) h3)
    where
      by : (o : Option Table) → table_of g c ≡ o → has_table g words o ≡ true → list_all (does_exist g c) c ≡ true → ends_right g.value c ≡ true → has_no_circle c c 0 ≡ true
          → IsWellSorted g words c
      by None e k x y z = absurd (let w : false ≡ true = k in cc)
      by (Some t) e k x y z = record {
        exists = λ at i q. exist_is i (all_at (does_exist g c) c at i x q);
        ends = ends_are g.value y;
        one_stack = λ at s r p q. table_is_one g c t e at s r p q;
        taken = λ at s p.
            let u = table_taken g c t e at s p in
            (u.0, none_past (2 ^ 32) t at s (second (words == length g.temps + most t) (list_all is_none (drop (2 ^ 32) t)) k) (comes_shown g c t e p.0 at s p.1), u.1);
        longest = (
          most t,
          record { bound = λ at s p. bound_is t at s (comes_shown g c t e p.0 at s p.1); met = somewhere (met_is t) },
          equal words (length g.temps + most t) (first (words == length g.temps + most t) (list_all is_none (drop (2 ^ 32) t)) k),
        );
        no_circle = no_circle_is z;
      }
        where
          somewhere : (most t ≡ 0) ⊎ ((at : ℕ) × (s : Stack) × (slice_get t at ≡ Some (Some s)) × (length s ≡ most t)) → (at : ℕ) × (s : Stack) × Reached g c at s × (length s ≡ most t)
          somewhere (inl q) = (0, [], (0, (refl, refl)), sym q)
          somewhere (inr q) = (q.0, q.1, shown_comes g c t e q.0 q.1 q.2, q.3)

  -- and the other way

  all_of : {X : Type 0} (p : X → Bool) (xs : List X) → ((n : ℕ) (x : X) → slice_get xs n ≡ Some x → p x ≡ true) → list_all p xs ≡ true
  all_of p [] h = refl
  all_of p (x ∷ xs) h = ap (λ b. b && list_all p xs) (h 0 x refl) ∙ all_of p xs (λ n y e. h (suc n) y e)

  any_of : {X : Type 0} (p : X → Bool) (xs : List X) → ((n : ℕ) (x : X) → slice_get xs n ≡ Some x → p x ≡ false) → list_any p xs ≡ false
  any_of p [] h = refl
  any_of p (x ∷ xs) h = ap (λ b. b || list_any p xs) (h 0 x refl) ∙ any_of p xs (λ n y e. h (suc n) y e)

  less_is : (m n : ℕ) → m < n → nat_lt m n ≡ true
  less_is m n h = grind (arith, h)

  most_is : (m n : ℕ) → m ≤ n → nat_le m n ≡ true
  most_is m n h = grind (arith, h)

  both_are : (a b : Bool) → a ≡ true → b ≡ true → (a && b) ≡ true
  both_are a b x y = ap (λ z. z && b) x ∙ y

  are_own : (ms : List NameId) → AreOwn (Some g.class.code) ms → list_all (is_own g) ms ≡ true
  are_own [] h = refl
  are_own (m ∷ ms) h = both_are (is_own g m) (list_all (is_own g) ms) h.0 (are_own ms h.1)

  are_answered : (a : Option (List NameId)) → AnswerOwn (Some g.class.code) a → answers_exist g a ≡ true
  are_answered None h = refl
  are_answered (Some ms) h = are_own ms h

  are_alts : (alts : List AltCode) → AltsExist (Some g.class.code) c alts → list_all (alternative_exists g c) alts ≡ true
  are_alts [] h = refl
  are_alts (a ∷ alts) h =
      both_are (alternative_exists g c a) (list_all (alternative_exists g c) alts)
      (both_are (nat_lt a.at (length c)) (answers_exist g a.answer) (less_is a.at (length c) h.1) (are_answered a.answer h.0)) (are_alts alts h.2)

  is_exist : (i : Instr) → Exists g.file.unit (Some g.class.code) (length g.temps) c i × IsText g.file i → does_exist g c i ≡ true
  is_exist (I.PushInt z) h = refl
  is_exist (I.PushBool b) h = refl
  is_exist I.PushNil h = refl
  is_exist (I.Jump a) h = less_is a (length c) h.0
  is_exist (I.LoadI n) h = less_is n g.class.code.vars h.0
  is_exist (I.LoadT n) h = less_is n (length g.temps) h.0
  is_exist I.SelfRef h = refl
  is_exist (I.StoreI n) h = less_is n g.class.code.vars h.0
  is_exist (I.StoreT n) h = less_is n (length g.temps) h.0
  is_exist (I.Oper op) h = refl
  is_exist I.Pop h = refl
  is_exist (I.Branch a) h = less_is a (length c) h.0
  is_exist I.Loop h = refl
  is_exist (I.Call m) h = h.0.0
  is_exist I.Ret h = refl
  is_exist (I.New k) h = h.0
  is_exist (I.Send m n) h = both_are (nat_lt m.0 (length g.file.unit.names)) (nat_le n 8) (less_is m.0 (length g.file.unit.names) h.0.0) (most_is n 8 h.0.1)
  is_exist (I.Async m n) h = both_are (nat_lt m.0 (length g.file.unit.names)) (nat_le n 8) (less_is m.0 (length g.file.unit.names) h.0.0) (most_is n 8 h.0.1)
  is_exist I.Write h = refl
  is_exist (I.WriteText s) h = h.1
  is_exist (I.Answer ms) h = are_own ms h.0
  is_exist (I.Select alts) h = are_alts alts h.0
  is_exist I.Halt h = refl
  is_exist I.Post h = refl

  no_halt : (i : Instr) → i ≢ I.Halt → is_halt i ≡ false
  no_halt I.Halt h = absurd (h refl)
  no_halt _ h = refl

  no_post : (i : Instr) → i ≢ I.Post → is_post i ≡ false
  no_post I.Post h = absurd (h refl)
  no_post _ h = refl

  no_ret : (i : Instr) → i ≢ I.Ret → is_ret i ≡ false
  no_ret I.Ret h = absurd (h refl)
  no_ret _ h = refl

  is_last_of : (p : Instr → Bool) (d : Instr) → p d ≡ true → (is : List Instr) → last_instr is ≡ Some d → is_last p is ≡ true
  is_last_of p d f [] h = absurd (let z : None ≡ Some d = h in cc)
  is_last_of p d f (i ∷ []) h = ap p (same_some h) ∙ f
  is_last_of p d f (i ∷ j ∷ is) h = is_last_of p d f (j ∷ is) h

  are_ends : (v : Option Sort) → EndsRight v c → ends_right v c ≡ true
  are_ends None h =
      both_are (is_last is_halt c) (not (list_any is_ret c) && not (list_any is_post c)) (is_last_of is_halt I.Halt refl c h.0)
      (both_are (not (list_any is_ret c)) (not (list_any is_post c)) (ap not (any_of is_ret c (λ n i e. no_ret i (λ q. h.1 n (e ∙ ap Some q)))))
      (ap not (any_of is_post c (λ n i e. no_post i (λ q. h.2 n (e ∙ ap Some q))))))
  are_ends (Some s) h =
      both_are (is_last is_ret c) (not (list_any is_halt c)) (is_last_of is_ret I.Ret refl c h.0)
      (ap not (any_of is_halt c (λ n i e. no_halt i (λ q. h.1 n (e ∙ ap Some q)))))

  -- a chain that does not end
  chain_there : (n a : ℕ) → silence_ends n c (Some a) ≡ false → (b : ℕ) × Chain c n a b
  chain_there zero a h = (a, refl)
  chain_there (suc n) a h = by (silent_to a (slice_get c a)) refl h (λ m. chain_there n m)
    where
      by : (o : Option ℕ) → silent_to a (slice_get c a) ≡ o → silence_ends n c o ≡ false → ((m : ℕ) → silence_ends n c (Some m) ≡ false → (b : ℕ) × Chain c n m b) → (b : ℕ) × Chain c (suc n) a b
      by None q k more = absurd (ended n k)
        where
          ended : (n : ℕ) → silence_ends n c None ≡ false → ⊥
          ended zero k = let z : true ≡ false = k in cc
          ended (suc n) k = let z : true ≡ false = k in cc
      by (Some m) q k more = let r = more m k in (r.0, (m, q, r.1))

  abbrev next_or : ℕ → Option ℕ → ℕ
  next_or a None = a
  next_or a (Some m) = m

  abbrev walk : ℕ → ℕ → ℕ
  walk zero a = a
  walk (suc n) a = walk n (next_or a (silent_to a (slice_get c a)))

  walk_is : (n a b : ℕ) → Chain c n a b → walk n a ≡ b
  walk_is zero a b h = h
  walk_is (suc n) a b h = ap (λ o. walk n (next_or a o)) h.1 ∙ walk_is n h.0 b h.2

  chain_parts : (n m a d : ℕ) → Chain c (n + m) a d → (b : ℕ) × Chain c n a b × Chain c m b d
  chain_parts zero m a d h = (a, refl, subst (λ l. Chain c l a d) (let z : 0 + m ≡ m = omega arith in z) h)
  chain_parts (suc n) m a d h =
      let k = subst (λ l. Chain c l a d) (let z : suc n + m ≡ suc (n + m) = omega arith in z) h in
      let r = chain_parts n m k.0 d k.2 in
      (r.0, (k.0, k.1, r.1), r.2)

  -- a chain longer than the code meets a place twice
  chain_ends : ((at n : ℕ) → ¬ (Chain c (suc n) at at)) → (a : ℕ) → silence_ends (suc (length c)) c (Some a) ≡ true
  chain_ends no_round a = by (silence_ends (suc (length c)) c (Some a)) refl
    where
      within : (d : ℕ) → Chain c (suc (length c)) a d → (i : ℕ) → i < suc (length c) → walk i a < length c
      within d h i lt =
          let r = rest i (suc (length c)) lt in
          let k = chain_parts i (suc r.0) a d (subst (λ l. Chain c l a d) (sym r.1) h) in
          subst (λ n. n < length c) (sym (walk_is i a k.0 k.1)) (silent_within k.0 k.2.0 k.2.1)
        where
          rest : (i n : ℕ) → i < n → (k : ℕ) × (i + suc k ≡ n)
          rest zero zero lt = absurd (omega (arith, lt))
          rest zero (suc n) lt = (n, omega arith)
          rest (suc i) zero lt = absurd (omega (arith, lt))
          rest (suc i) (suc n) lt = let r = rest i n (omega (arith, lt)) in let e = r.1 in (r.0, omega (arith, e))

      meets : (d : ℕ) → Chain c (suc (length c)) a d → ⊥
      meets d h =
          let m = pigeons (length c) (λ i. walk i a) (within d h) in
          let r = rest (suc (m.first + m.between)) (suc (length c)) m.within in
          let k = chain_parts (suc (m.first + m.between)) r.0 a d (subst (λ l. Chain c l a d) (sym r.1) h) in
          let l = chain_parts m.first (suc m.between) a k.0 (subst (λ l. Chain c l a k.0) (let z : suc (m.first + m.between) ≡ m.first + suc m.between = omega arith in z) k.1) in
          let x = walk_is m.first a l.0 l.1 in
          let y = walk_is (suc (m.first + m.between)) a k.0 k.1 in
          let same : k.0 ≡ l.0 = sym y ∙ sym m.same ∙ x in
          no_round l.0 m.between (subst (λ b. Chain c (suc m.between) l.0 b) same l.2)
        where
          rest : (i n : ℕ) → i < n → (k : ℕ) × (i + k ≡ n)
          rest zero n lt = (n, omega arith)
          rest (suc i) zero lt = absurd (omega (arith, lt))
          rest (suc i) (suc n) lt = let r = rest i n (omega (arith, lt)) in let e = r.1 in (r.0, omega (arith, e))

      by : (b : Bool) → silence_ends (suc (length c)) c (Some a) ≡ b → silence_ends (suc (length c)) c (Some a) ≡ true
      by true e = e
      by false e = let r = chain_there (suc (length c)) a e in absurd (meets r.0 r.1)

  pub is_calm : ((at n : ℕ) → ¬ (Chain c (suc n) at at)) → (is : List Instr) (at : ℕ) → has_no_circle c is at ≡ true
  is_calm h [] at = refl
  is_calm h (i ∷ is) at = both_are (silence_ends (suc (length c)) c (Some at)) (has_no_circle c is (suc at)) (chain_ends h at) (is_calm h is (suc at))

  most_within : (t : Table) (n : ℕ) → ((at : ℕ) (s : Stack) → slice_get t at ≡ Some (Some s) → length s ≤ n) → most t ≤ n
  most_within [] n h = omega arith
  most_within (None ∷ t) n h = most_within t n (λ at s e. h (suc at) s e)
  most_within (Some r ∷ t) n h = let a = h 0 r refl in let b = most_within t n (λ at s e. h (suc at) s e) in omega (arith, a, b)

  past_none : (n : ℕ) (t : Table) → ((at : ℕ) (s : Stack) → slice_get t at ≡ Some (Some s) → at < n) → list_all is_none (drop n t) ≡ true
  past_none zero t h = all_of is_none t (λ at x e. by at x e)
    where
      by : (at : ℕ) (x : Option Stack) → slice_get t at ≡ Some x → is_none x ≡ true
      by at None e = refl
      by at (Some s) e = absurd (let lt = h at s e in omega (arith, lt))
  past_none (suc n) [] h = refl
  past_none (suc n) (x ∷ t) h = past_none n t (λ at s e. let lt = h (suc at) s e in omega (arith, lt))

  -- what is well sorted passes the test
  pub right_passes : (words : ℕ) → IsWellSorted g words c → is_well_sorted g words c ≡ true
  right_passes words w =
      let t = table_exists g c w.one_stack (λ at s h. let k = w.taken at s h in (k.0, k.2)) in
      let n = w.longest.0 in
      let le = most_within t.0 n (λ at s e. w.longest.1.bound at s (shown_comes g c t.0 t.1 at s e)) in
      let m = w.longest.1.met in
      let ge = bound_is t.0 m.0 m.1 (comes_shown g c t.0 t.1 m.2.0 m.0 m.1 m.2.1) in
      let same : n ≡ most t.0 = (let k = m.3 in omega (arith, le, ge, k)) in
      both_are (list_all (does_exist g c) c && ends_right g.value c && has_no_circle c c 0) (has_table g words (table_of g c))
      (both_are (list_all (does_exist g c) c && ends_right g.value c) (has_no_circle c c 0)
      (both_are (list_all (does_exist g c) c) (ends_right g.value c) (all_of (does_exist g c) c (λ at i e. is_exist i (w.exists at i e))) (are_ends g.value w.ends)) (is_calm w.no_circle c 0))
      (ap (has_table g words) t.1
      ∙ both_are (words == length g.temps + most t.0) (list_all is_none (drop (2 ^ 32) t.0))
      (ap (λ k. words == length g.temps + k) (sym same) ∙ ap (λ k. k == length g.temps + n) w.longest.2 ∙ equals (length g.temps + n))
      (past_none (2 ^ 32) t.0 (λ at s e. (w.taken at s (shown_comes g c t.0 t.1 at s e)).1)))
