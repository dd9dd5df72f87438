-- The table of a code has exactly the stacks with which places are reached. It exists if each place has one stack, which its instruction can take.
use Rattle.std.proofs.Common.{◌≡◌, ◌≢◌, ◌⊎◌, inl, inr, refl, sym, ap, subst, ◌∙◌, IsTrue, ℕ, zero, suc, ◌+◌, ◌<◌, ◌≤◌, List, [], ◌∷◌, ◌++◌, length, map, Option, Some, None, is_some, Bool, true, false, ◌&&◌, arith, length-append}
use Rattle.std.specs.Prelude.{slice_get, slice_set, nat_le, replicate}
use Rattle.std.proofs.lemmas.List.{length-map}
use Rattle.run_types.specs.Sorts.{Sort, IntSort, BoolSort, ClassSort, NilSort, NoSort, BrokenSort}
use Rattle.run_types.proofs.Laws.{first, second, equal, equals, decide, same_some, given_by, required, each_both}
use Rattle.run_types.specs.Partial.{◌>>=◌, ◌>>◌, require}
use Rattle.run_types.specs.Tables.{Each}
use Rattle.code_semantics.specs.declared.unit.Instr.{Instr}
use Rattle.code_semantics.specs.declared.unit.Instr.TheVariants as I
use Rattle.code_semantics.specs.ReachedPlaces.{nexts, IsAmong}
use Rattle.code_typing.specs.Sorts.{Stack, CodeScope, left_by}
use Rattle.code_typing.specs.Verified.{Reached, ReachedBy}
use Rattle.code_typing.specs.Verdict.{Table, Visit, sorts_equal, stacks_equal, followed, if_equal, if_taken, visited, spread, visits, table_of}

-- equal stacks
same_sort : (s t : Sort) → sorts_equal s t ≡ true → s ≡ t
same_sort IntSort IntSort e = refl
same_sort BoolSort BoolSort e = refl
same_sort (ClassSort c) (ClassSort d) e = ap ClassSort (equal c d e)
same_sort NilSort NilSort e = refl
same_sort NoSort NoSort e = refl
same_sort BrokenSort BrokenSort e = refl
same_sort _ _ e = absurd (let z : false ≡ true = e in cc)

pub same_stack : (s t : Stack) → stacks_equal s t ≡ true → s ≡ t
same_stack [] [] e = refl
same_stack (x ∷ s) (y ∷ t) e =
    ap (λ z. z ∷ s) (same_sort x y (first (sorts_equal x y) (stacks_equal s t) e)) ∙ ap (λ z. y ∷ z) (same_stack s t (second (sorts_equal x y) (stacks_equal s t) e))
same_stack [] (y ∷ t) e = absurd (let z : false ≡ true = e in cc)
same_stack (x ∷ s) [] e = absurd (let z : false ≡ true = e in cc)

-- tables
set_same : (t : Table) (n : ℕ) (x y : Option Stack) → slice_get t n ≡ Some y → slice_get (slice_set t n x) n ≡ Some x
set_same [] n x y e = absurd (let z : None ≡ Some y = e in cc)
set_same (z ∷ t) zero x y e = refl
set_same (z ∷ t) (suc n) x y e = set_same t n x y e

set_other : (t : Table) (n m : ℕ) (x : Option Stack) → m ≢ n → slice_get (slice_set t n x) m ≡ slice_get t m
set_other [] n m x k = refl
set_other (z ∷ t) zero zero x k = absurd (k refl)
set_other (z ∷ t) zero (suc m) x k = refl
set_other (z ∷ t) (suc n) zero x k = refl
set_other (z ∷ t) (suc n) (suc m) x k = set_other t n m x (λ e. k (ap suc e))

set_length : (t : Table) (n : ℕ) (x : Option Stack) → length (slice_set t n x) ≡ length t
set_length [] n x = refl
set_length (z ∷ t) zero x = refl
set_length (z ∷ t) (suc n) x = ap suc (set_length t n x)

each_front : {X : Type 0} (P : X → Type 0) (xs ys : List X) → Each P (xs ++ ys) → Each P xs
each_front P [] ys h = tt
each_front P (x ∷ xs) ys h = (h.0, each_front P xs ys h.1)

each_back : {X : Type 0} (P : X → Type 0) (xs ys : List X) → Each P (xs ++ ys) → Each P ys
each_back P [] ys h = h
each_back P (x ∷ xs) ys h = each_back P xs ys h.1

module _ (g : CodeScope) (c : List Instr) where
  -- the table has this stack at the place of a visit
  abbrev pub Shows : Table → Visit → Type 0
  Shows t v = slice_get t v.0 ≡ Some (Some v.1)

  abbrev pub Comes : Visit → Type 0
  Comes v = Reached g c v.0 v.1

  -- the instruction takes the stack, and the table has what it leaves at each next place
  abbrev pub IsClosed : Table → ℕ → Stack → Type 0
  IsClosed t at s = (ws : List Visit) × (followed g at s (slice_get c at) ≡ Some ws) × Each (Shows t) ws

  -- what a table is after visits that began with another
  pub record IsSpread (before : Table) (vs : List Visit) (after : Table) : Type 0 where
    pub keeps : (at : ℕ) (s : Stack) → slice_get before at ≡ Some (Some s) → slice_get after at ≡ Some (Some s)
    pub shows : Each (Shows after) vs
    pub closed : (at : ℕ) (s : Stack) → slice_get after at ≡ Some (Some s) → (slice_get before at ≡ Some (Some s)) ⊎ IsClosed after at s
    pub size : length after ≡ length before
    pub comes : Each Comes vs → ((at : ℕ) (s : Stack) → slice_get before at ≡ Some (Some s) → Reached g c at s) → (at : ℕ) (s : Stack) → slice_get after at ≡ Some (Some s) → Reached g c at s

  -- what follows a place that is reached
  pub followed_is : (at : ℕ) (s : Stack) (ws : List Visit) → followed g at s (slice_get c at) ≡ Some ws
      → (i : Instr) × (r : Stack) × (slice_get c at ≡ Some i) × (length s ≤ 64) × (left_by g i s ≡ Some r) × (map (λ b. (b, r)) (nexts at i) ≡ ws)
  followed_is at s ws e = by (slice_get c at) refl e
    where
      small : (n : ℕ) → IsTrue (nat_le n 64) → n ≤ 64
      small n h = grind (arith, h)

      by : (o : Option Instr) → slice_get c at ≡ o → followed g at s o ≡ Some ws
          → (i : Instr) × (r : Stack) × (slice_get c at ≡ Some i) × (length s ≤ 64) × (left_by g i s ≡ Some r) × (map (λ b. (b, r)) (nexts at i) ≡ ws)
      by None q h = absurd (let z : None ≡ Some ws = h in cc)
      by (Some i) q h =
          let a = given_by (require (nat_le (length s) 64) >> left_by g i s) (λ r. Some (map (λ b. (b, r)) (nexts at i))) ws h in
          let b = required (nat_le (length s) 64) (left_by g i s) a.0 a.1 in
          (i, a.0, q, small (length s) b.0, b.1, same_some a.2)

  next_comes : (at : ℕ) (s r : Stack) (i : Instr) → Reached g c at s → slice_get c at ≡ Some i → length s ≤ 64 → left_by g i s ≡ Some r → (ts : List ℕ) → ((b : ℕ) → IsAmong b ts → IsAmong b (nexts at i))
      → Each Comes (map (λ b. (b, r)) ts)
  next_comes at s r i h e le l [] all = tt
  next_comes at s r i h e le l (b ∷ ts) all = ((suc h.0, (at, s, i, h.1, le, e, all b (inl refl), l)), next_comes at s r i h e le l ts (λ d k. all d (inr k)))

  pub comes_next : (at : ℕ) (s : Stack) (ws : List Visit) → Reached g c at s → followed g at s (slice_get c at) ≡ Some ws → Each Comes ws
  comes_next at s ws h e =
      let f = followed_is at s ws e in
      subst (Each Comes) f.5 (next_comes at s f.1 f.0 h f.2 f.3 f.4 (nexts at f.0) (λ b k. k))

  -- a table that is spread holds what it should
  pub is_spread : (n : ℕ) (t : Table) (vs : List Visit) (t' : Table) → spread n g c t vs ≡ Some t' → IsSpread t vs t'
  is_spread zero t [] t' e = nothing t t' (same_some e)
    where
      nothing : (t t' : Table) → t ≡ t' → IsSpread t [] t'
      nothing t t' s = subst (IsSpread t []) s (record { keeps = λ at s e. e; shows = tt; closed = λ at s e. inl e; size = refl; comes = λ h k. k })
  is_spread zero t (v ∷ vs) t' e = absurd (let z : None ≡ Some t' = e in cc)
  is_spread (suc n) t [] t' e = nothing t t' (same_some e)
    where
      nothing : (t t' : Table) → t ≡ t' → IsSpread t [] t'
      nothing t t' s = subst (IsSpread t []) s (record { keeps = λ at s e. e; shows = tt; closed = λ at s e. inl e; size = refl; comes = λ h k. k })
  is_spread (suc n) t (v ∷ vs) t' e = by (slice_get t v.0) refl e (is_spread n t vs t') (λ ws. is_spread n (slice_set t v.0 (Some v.1)) (ws ++ vs) t')
    where
      by : (o : Option (Option Stack)) → slice_get t v.0 ≡ o
          → visited o v.1 (λ u. spread n g c t vs) (followed g v.0 v.1 (slice_get c v.0)) (λ ws. spread n g c (slice_set t v.0 (Some v.1)) (ws ++ vs)) ≡ Some t'
          → (spread n g c t vs ≡ Some t' → IsSpread t vs t')
          → ((ws : List Visit) → spread n g c (slice_set t v.0 (Some v.1)) (ws ++ vs) ≡ Some t' → IsSpread (slice_set t v.0 (Some v.1)) (ws ++ vs) t') → IsSpread t (v ∷ vs) t'
      by None q h known new = absurd (let z : None ≡ Some t' = h in cc)
      by (Some (Some r)) q h known new = equally (stacks_equal r v.1) refl h
        where
          equally : (b : Bool) → stacks_equal r v.1 ≡ b → if_equal b (λ u. spread n g c t vs) ≡ Some t' → IsSpread t (v ∷ vs) t'
          equally false k j = absurd (let z : None ≡ Some t' = j in cc)
          equally true k j =
              let x = known j in
              let same : r ≡ v.1 = same_stack r v.1 k in
              record {
                keeps = x.keeps;
                shows = (x.keeps v.0 v.1 (q ∙ ap (λ z. Some (Some z)) same), x.shows);
                closed = x.closed;
                size = x.size;
                comes = λ a b. x.comes a.1 b;
              }
      by (Some None) q h known new = taken (followed g v.0 v.1 (slice_get c v.0)) refl h
        where
          taken : (w : Option (List Visit)) → followed g v.0 v.1 (slice_get c v.0) ≡ w → if_taken w (λ ws. spread n g c (slice_set t v.0 (Some v.1)) (ws ++ vs)) ≡ Some t' → IsSpread t (v ∷ vs) t'
          taken None k j = absurd (let z : None ≡ Some t' = j in cc)
          taken (Some ws) k j =
              let x = new ws j in
              record {
                keeps = λ at s i. x.keeps at s (kept at s i (decide at v.0));
                shows = (x.keeps v.0 v.1 here, each_back (Shows t') ws vs x.shows);
                closed = λ at s i. closed x at s (x.closed at s i) (decide at v.0);
                size = x.size ∙ set_length t v.0 (Some v.1);
                comes = λ a b. x.comes (each_both Comes ws vs (comes_next v.0 v.1 ws a.0 k) a.1) (λ at s i. before a.0 b at s i (decide at v.0));
              }
            where
              here : slice_get (slice_set t v.0 (Some v.1)) v.0 ≡ Some (Some v.1)
              here = set_same t v.0 (Some v.1) None q

              kept : (at : ℕ) (s : Stack) → slice_get t at ≡ Some (Some s) → (at ≡ v.0) ⊎ (at ≢ v.0) → slice_get (slice_set t v.0 (Some v.1)) at ≡ Some (Some s)
              kept at s i (inl y) = absurd (let z : None ≡ Some s = same_some (sym q ∙ ap (slice_get t) (sym y) ∙ i) in cc)
              kept at s i (inr y) = set_other t v.0 at (Some v.1) y ∙ i

              closed : IsSpread (slice_set t v.0 (Some v.1)) (ws ++ vs) t' → (at : ℕ) (s : Stack) → (slice_get (slice_set t v.0 (Some v.1)) at ≡ Some (Some s)) ⊎ IsClosed t' at s
                  → (at ≡ v.0) ⊎ (at ≢ v.0) → (slice_get t at ≡ Some (Some s)) ⊎ IsClosed t' at s
              closed x at s (inr z) y = inr z
              closed x at s (inl z) (inr y) = inl (sym (set_other t v.0 at (Some v.1) y) ∙ z)
              closed x at s (inl z) (inl y) =
                  let u : v.1 ≡ s = same_some (same_some (sym here ∙ ap (slice_get (slice_set t v.0 (Some v.1))) (sym y) ∙ z)) in
                  inr (subst (λ n. IsClosed t' n s) (sym y) (subst (IsClosed t' v.0) u (ws, k, each_front (Shows t') ws vs x.shows)))

              before : Comes v → ((at : ℕ) (s : Stack) → slice_get t at ≡ Some (Some s) → Reached g c at s) → (at : ℕ) (s : Stack) → slice_get (slice_set t v.0 (Some v.1)) at ≡ Some (Some s)
                  → (at ≡ v.0) ⊎ (at ≢ v.0) → Reached g c at s
              before a b at s z (inr y) = b at s (sym (set_other t v.0 at (Some v.1) y) ∙ z)
              before a b at s z (inl y) =
                  let u : v.1 ≡ s = same_some (same_some (sym here ∙ ap (slice_get (slice_set t v.0 (Some v.1))) (sym y) ∙ z)) in
                  subst (λ n. Reached g c n s) (sym y) (subst (Reached g c v.0) u a)

  each_pick : (t : Table) (r : Stack) (ts : List ℕ) (at : ℕ) → Each (Shows t) (map (λ b. (b, r)) ts) → IsAmong at ts → Shows t (at, r)
  each_pick t r [] at h a = absurd a
  each_pick t r (b ∷ ts) at h (inl e) = subst (λ n. slice_get t n ≡ Some (Some r)) e h.0
  each_pick t r (b ∷ ts) at h (inr a) = each_pick t r ts at h.1 a

  -- nothing is known yet
  none_yet : (n at : ℕ) (s : Stack) → slice_get (replicate n None) at ≡ Some (Some s) → ⊥
  none_yet zero at s e = let z : None ≡ Some (Some s) = e in cc
  none_yet (suc n) zero s e = let z : Some None ≡ Some (Some s) = e in let y : None ≡ Some s = same_some z in cc
  none_yet (suc n) (suc at) s e = none_yet n at s e

  module _ (t : Table) (e : table_of g c ≡ Some t) where
    whole : IsSpread (replicate (length c) None) ((0, []) ∷ []) t
    whole = is_spread (visits c) (replicate (length c) None) ((0, []) ∷ []) t e

    -- what the table shows is reached
    pub shown_comes : (at : ℕ) (s : Stack) → slice_get t at ≡ Some (Some s) → Reached g c at s
    shown_comes at s h = whole.comes ((0, (refl, refl)), tt) (λ at s i. absurd (none_yet (length c) at s i)) at s h

    -- its instruction takes the stack, and the table shows what it leaves
    pub shown_closed : (at : ℕ) (s : Stack) → slice_get t at ≡ Some (Some s) → IsClosed t at s
    shown_closed at s h = by (whole.closed at s h)
      where
        by : (slice_get (replicate (length c) None) at ≡ Some (Some s)) ⊎ IsClosed t at s → IsClosed t at s
        by (inl i) = absurd (none_yet (length c) at s i)
        by (inr i) = i

    -- and what is reached is shown
    pub comes_shown : (n at : ℕ) (s : Stack) → ReachedBy g c n at s → slice_get t at ≡ Some (Some s)
    comes_shown zero at s h =
        ap (slice_get t) h.0 ∙ whole.shows.0 ∙ ap (λ z. Some (Some z)) (sym h.1)
    comes_shown (suc n) at s h =
        let before = comes_shown n h.0 h.1 h.3 in
        let k = shown_closed h.0 h.1 before in
        let f = followed_is h.0 h.1 k.0 k.1 in
        let i : f.0 ≡ h.2 = same_some (sym f.2 ∙ h.5) in
        let r : f.1 ≡ s = same_some (sym f.4 ∙ ap (λ z. left_by g z h.1) i ∙ h.7) in
        let all : Each (Shows t) (map (λ b. (b, s)) (nexts h.0 h.2)) = subst (λ z. Each (Shows t) (map (λ b. (b, z)) (nexts h.0 h.2))) r
        (subst (λ z. Each (Shows t) (map (λ b. (b, f.1)) (nexts h.0 z))) i (subst (Each (Shows t)) (sym f.5) k.2)) in
        each_pick t s (nexts h.0 h.2) at all h.6

    -- so each place has one stack, which its instruction takes
    pub table_is_one : (at : ℕ) (s r : Stack) → Reached g c at s → Reached g c at r → s ≡ r
    table_is_one at s r h k = same_some (same_some (sym (comes_shown h.0 at s h.1) ∙ comes_shown k.0 at r k.1))

    pub table_taken : (at : ℕ) (s : Stack) → Reached g c at s → (length s ≤ 64) × ((i : Instr) × (slice_get c at ≡ Some i) × IsTrue (is_some (left_by g i s)))
    table_taken at s h =
        let k = shown_closed at s (comes_shown h.0 at s h.1) in
        let f = followed_is at s k.0 k.1 in
        (f.3, (f.0, f.2, subst (λ z. IsTrue (is_some z)) (sym f.4) refl))

  -- how many visits may still come
  abbrev pub unset : Table → List Instr → ℕ
  unset [] is = 0
  unset (x ∷ t) [] = 0
  unset (None ∷ t) (i ∷ is) = length (nexts 0 i) + unset t is
  unset (Some s ∷ t) (i ∷ is) = unset t is

  pub set_less : (t : Table) (is : List Instr) (n : ℕ) (s : Stack) (i : Instr) → slice_get t n ≡ Some None → slice_get is n ≡ Some i → unset (slice_set t n (Some s)) is + length (nexts 0 i) ≡ unset t is
  set_less [] is n s i a b = absurd (let z : None ≡ Some None = a in cc)
  set_less (x ∷ t) [] n s i a b = absurd (let z : None ≡ Some i = b in cc)
  set_less (None ∷ t) (j ∷ is) zero s i a b = let z : length (nexts 0 j) ≡ length (nexts 0 i) = ap (λ k. length (nexts 0 k)) (same_some b) in omega (arith, z)
  set_less (Some r ∷ t) (j ∷ is) zero s i a b = absurd (let z : Some r ≡ None = same_some a in cc)
  set_less (None ∷ t) (j ∷ is) (suc n) s i a b = let r = set_less t is n s i a b in omega (arith, r)
  set_less (Some x ∷ t) (j ∷ is) (suc n) s i a b = set_less t is n s i a b

  pub all_unset : (is : List Instr) → suc (unset (replicate (length is) None) is) ≡ visits is
  all_unset [] = refl
  all_unset (i ∷ is) = let r = all_unset is in omega (arith, r)

  pub next_count : (at : ℕ) (i : Instr) → length (nexts at i) ≡ length (nexts 0 i)
  next_count at (I.PushInt z) = refl
  next_count at (I.PushBool b) = refl
  next_count at I.PushNil = refl
  next_count at (I.Jump a) = refl
  next_count at (I.LoadI n) = refl
  next_count at (I.LoadT n) = refl
  next_count at I.SelfRef = refl
  next_count at (I.StoreI n) = refl
  next_count at (I.StoreT n) = refl
  next_count at (I.Oper op) = refl
  next_count at I.Pop = refl
  next_count at (I.Branch a) = refl
  next_count at I.Loop = refl
  next_count at (I.Call m) = refl
  next_count at I.Ret = refl
  next_count at (I.New k) = refl
  next_count at (I.Send m n) = refl
  next_count at (I.Async m n) = refl
  next_count at I.Write = refl
  next_count at (I.WriteText s) = refl
  next_count at (I.Answer ns) = refl
  next_count at (I.Select alts) = refl
  next_count at I.Halt = refl
  next_count at I.Post = refl

  -- code with one stack at each place, which its instruction takes, has a table
  module _ (one : (at : ℕ) (s r : Stack) → Reached g c at s → Reached g c at r → s ≡ r)
      (taken : (at : ℕ) (s : Stack) → Reached g c at s → (length s ≤ 64) × ((i : Instr) × (slice_get c at ≡ Some i) × IsTrue (is_some (left_by g i s)))) where
    there : {A : Type 0} (x : Option A) → IsTrue (is_some x) → (a : A) × (x ≡ Some a)
    there None h = absurd (let z : false ≡ true = h in cc)
    there (Some a) h = (a, refl)

    follows : (at : ℕ) (s : Stack) → Reached g c at s → (i : Instr) × (r : Stack) × (slice_get c at ≡ Some i) × (followed g at s (slice_get c at) ≡ Some (map (λ b. (b, r)) (nexts at i)))
    follows at s h =
        let k = taken at s h in
        let l = there (left_by g k.1.0 s) k.1.2 in
        let small : nat_le (length s) 64 ≡ true = (let le = k.0 in grind (arith, le)) in (
          k.1.0,
          l.0,
          k.1.1,
          ap (followed g at s) k.1.1 ∙ ap (λ b. require b >> left_by g k.1.0 s >>= λ r. Some (map (λ b. (b, r)) (nexts at k.1.0))) small
              ∙ ap (λ z. z >>= λ r. Some (map (λ b. (b, r)) (nexts at k.1.0))) l.1,
        )

    below : {X : Type 0} (xs : List X) (n : ℕ) (x : X) → slice_get xs n ≡ Some x → n < length xs
    below [] n x e = absurd (let z : None ≡ Some x = e in cc)
    below (y ∷ xs) zero x e = omega arith
    below (y ∷ xs) (suc n) x e = let h = below xs n x e in omega (arith, h)

    entry : (t : Table) (n : ℕ) → n < length t → (x : Option Stack) × (slice_get t n ≡ Some x)
    entry [] n h = absurd (omega (arith, h))
    entry (x ∷ t) zero h = (x, refl)
    entry (x ∷ t) (suc n) h = entry t n (omega (arith, h))

    equal_itself : (s : Stack) → stacks_equal s s ≡ true
    equal_itself [] = refl
    equal_itself (IntSort ∷ s) = equal_itself s
    equal_itself (BoolSort ∷ s) = equal_itself s
    equal_itself (ClassSort k ∷ s) = ap (λ b. b && stacks_equal s s) (equals k) ∙ equal_itself s
    equal_itself (NilSort ∷ s) = equal_itself s
    equal_itself (NoSort ∷ s) = equal_itself s
    equal_itself (BrokenSort ∷ s) = equal_itself s

    abbrev visit : Stack → ℕ → Visit
    visit r b = (b, r)

    abbrev visit_all : Stack → List ℕ → List Visit
    visit_all r ts = map (λ b. visit r b) ts

    table_there : (n : ℕ) (t : Table) (vs : List Visit) → Each Comes vs → ((at : ℕ) (s : Stack) → slice_get t at ≡ Some (Some s) → Reached g c at s) → length t ≡ length c
        → length vs + unset t c ≤ n → (t' : Table) × (spread n g c t vs ≡ Some t')
    table_there zero t [] a b l e = (t, refl)
    table_there zero t (v ∷ vs) a b l e = absurd (omega (arith, e))
    table_there (suc n) t [] a b l e = (t, refl)
    table_there (suc n) t (v ∷ vs) a b l e = by at.0 at.1 (table_there n t vs a.1 b l)
        (λ b' e'. table_there n (slice_set t v.0 (Some v.1)) (map (λ b. (b, f.1)) (nexts v.0 f.0) ++ vs)
        (each_both Comes (map (λ b. (b, f.1)) (nexts v.0 f.0)) vs (comes_next v.0 v.1 (map (λ b. (b, f.1)) (nexts v.0 f.0)) a.0 f.3) a.1) b' (set_length t v.0 (Some v.1) ∙ l) e')
      where
        f : (i : Instr) × (r : Stack) × (slice_get c v.0 ≡ Some i) × (followed g v.0 v.1 (slice_get c v.0) ≡ Some (map (λ b. (b, r)) (nexts v.0 i)))
        f = follows v.0 v.1 a.0

        at : (x : Option Stack) × (slice_get t v.0 ≡ Some x)
        at = entry t v.0 (let lt = below c v.0 f.0 f.2 in omega (arith, lt, l))

        by : (x : Option Stack) → slice_get t v.0 ≡ Some x → (length vs + unset t c ≤ n → (t' : Table) × (spread n g c t vs ≡ Some t'))
            → (((at : ℕ) (s : Stack) → slice_get (slice_set t v.0 (Some v.1)) at ≡ Some (Some s) → Reached g c at s)
            → length (map (λ b. (b, f.1)) (nexts v.0 f.0) ++ vs) + unset (slice_set t v.0 (Some v.1)) c ≤ n
            → (t' : Table) × (spread n g c (slice_set t v.0 (Some v.1)) (map (λ b. (b, f.1)) (nexts v.0 f.0) ++ vs) ≡ Some t'))
            → (t' : Table) × (spread (suc n) g c t (v ∷ vs) ≡ Some t')
        by (Some r) q known new =
            let x = known (omega (arith, e)) in
            let same : r ≡ v.1 = one v.0 r v.1 (b v.0 r q) a.0 in
            let eq : stacks_equal r v.1 ≡ true = ap (λ z. stacks_equal z v.1) same ∙ equal_itself v.1 in (
              x.0,
              ap (λ o. visited o v.1 (λ u. spread n g c t vs) (followed g v.0 v.1 (slice_get c v.0)) (λ ws. spread n g c (slice_set t v.0 (Some v.1)) (ws ++ vs))) q
                  ∙ ap (λ z. if_equal z (λ u. spread n g c t vs)) eq ∙ x.1,
            )
        by None q known new =
            let m : length (visit_all f.1 (nexts v.0 f.0)) ≡ length (nexts v.0 f.0) = length-map (nexts v.0 f.0) (λ b. visit f.1 b) in
            let k = next_count v.0 f.0 in
            let d = set_less t c v.0 v.1 f.0 q f.2 in
            let la = length-append (visit_all f.1 (nexts v.0 f.0)) vs in
            let x = new (λ at s i. before at s i (decide at v.0)) (omega (arith, e, m, k, d, la)) in (
              x.0,
              ap (λ o. visited o v.1 (λ u. spread n g c t vs) (followed g v.0 v.1 (slice_get c v.0)) (λ ws. spread n g c (slice_set t v.0 (Some v.1)) (ws ++ vs))) q
                  ∙ ap (λ w. if_taken w (λ ws. spread n g c (slice_set t v.0 (Some v.1)) (ws ++ vs))) f.3 ∙ x.1,
            )
          where
            before : (at : ℕ) (s : Stack) → slice_get (slice_set t v.0 (Some v.1)) at ≡ Some (Some s) → (at ≡ v.0) ⊎ (at ≢ v.0) → Reached g c at s
            before at s z (inr y) = b at s (sym (set_other t v.0 at (Some v.1) y) ∙ z)
            before at s z (inl y) =
                let u : v.1 ≡ s = same_some (same_some (sym (set_same t v.0 (Some v.1) None q) ∙ ap (slice_get (slice_set t v.0 (Some v.1))) (sym y) ∙ z)) in
                subst (λ n. Reached g c n s) (sym y) (subst (Reached g c v.0) u a.0)

    pub table_exists : (t : Table) × (table_of g c ≡ Some t)
    table_exists =
        let l = length_replicate (length c) in
        let n = all_unset c in
        table_there (visits c) (replicate (length c) None) ((0, []) ∷ []) ((0, (refl, refl)), tt) (λ at s i. absurd (none_yet (length c) at s i)) l (omega (arith, n))
      where
        length_replicate : (n : ℕ) → length (replicate {A = Option Stack} n None) ≡ n
        length_replicate zero = refl
        length_replicate (suc n) = ap suc (length_replicate n)
