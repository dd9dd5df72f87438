-- A walk along the calls tells whether an object is caught.
use Rattle.std.proofs.Common.{◌≡◌, ◌≢◌, ◌⊎◌, inl, inr, refl, sym, ap, ◌∙◌, subst, ℕ, zero, suc, ◌+◌, ◌<◌, List, [], ◌∷◌, length, Option, Some, None, Bool, true, false, ◌&&◌, ◌||◌, ◌==◌, cond, arith}
use Rattle.std.specs.Ordering.{nat_cmp, is_eq}
use Rattle.std.specs.declared.cmp.Ordering.{Ordering}
use Rattle.std.specs.declared.cmp.Ordering.TheVariants.{Less, Equal, Greater}
use Rattle.std.specs.FinMap.{nat_cmp-IsAntisymmetric}
use Rattle.std.specs.FinMap.Entries.{find}
use Rattle.pool_syntax.specs.Terms.{ProgramTree}
use Rattle.run_types.proofs.Laws.{equal, equals, decide, first, second, pigeons, Meets}
use Rattle.pool_relation.specs.Action.{Object}
use Rattle.pool_relation.specs.Configuration.{Configuration, object_of}
use Rattle.search_laws.specs.Caught.{Stance, Free, Over, Calls, stance_in, stance, goes_by, never_free, is_calling, is_caught, WaitsFor, IsCaught}

module _ (at : ℕ → Stance) where
  abbrev to : Stance → ℕ → ℕ
  to (Calls b) o = b
  to _ o = o

  -- the object after n calls from o
  abbrev walk : ℕ → ℕ → ℕ
  walk zero o = o
  walk (suc n) o = walk n (to (at o) o)

  walk_one_more : (n o : ℕ) → walk (suc n) o ≡ to (at (walk n o)) (walk n o)
  walk_one_more zero o = refl
  walk_one_more (suc n) o = walk_one_more n (to (at o) o)

  abbrev AllCall : ℕ → ℕ → Type 0
  AllCall n o = (j : ℕ) → j < n → is_calling (at (walk j o)) ≡ true

  data Comes (n o : ℕ) : Type 0 where
    ToOver : (k : ℕ) → AllCall k o → at (walk k o) ≡ Over → Comes n o
    OnAndOn : AllCall n o → Comes n o

  one_more : (k o b : ℕ) → at o ≡ Calls b → AllCall k b → AllCall (suc k) o
  one_more k o b i all zero lt = ap is_calling i
  one_more k o b i all (suc j) lt = ap (λ s. is_calling (at (walk j (to s o)))) i ∙ all j (omega (arith, lt))

  comes : (n o : ℕ) → never_free at n o ≡ true → Comes n o
  comes zero o h = OnAndOn (λ j lt. absurd (omega (arith, lt)))
  comes (suc n) o h = by (at o) refl h (comes n)
    where
      by : (s : Stance) → at o ≡ s → goes_by s (never_free at n) ≡ true → ((b : ℕ) → never_free at n b ≡ true → Comes n b) → Comes (suc n) o
      by Free i h rest = absurd (cc)
      by Over i h rest = ToOver 0 (λ j lt. absurd (omega (arith, lt))) i
      by (Calls b) i h rest = on (rest b h)
        where
          on : Comes n b → Comes (suc n) o
          on (ToOver k all e) = ToOver (suc k) (one_more k o b i all) (ap (λ s. at (walk k (to s o))) i ∙ e)
          on (OnAndOn all) = OnAndOn (one_more n o b i all)

  -- q is one of the first n objects of the walk from o
  abbrev on_way : ℕ → ℕ → ℕ → Bool
  on_way zero o q = false
  on_way (suc n) o q = (o == q) || on_way n (to (at o) o) q

  has_place : (n o q : ℕ) → on_way n o q ≡ true → (j : ℕ) × (j < n) × (walk j o ≡ q)
  has_place zero o q h = absurd (cc)
  has_place (suc n) o q h = by (o == q) refl (has_place n (to (at o) o) q)
    where
      by : (b : Bool) → (o == q) ≡ b → (on_way n (to (at o) o) q ≡ true → (j : ℕ) × (j < n) × (walk j (to (at o) o) ≡ q)) → (j : ℕ) × (j < suc n) × (walk j o ≡ q)
      by true i rest = (0, omega arith, equal o q i)
      by false i rest = let r = rest (sym (ap (λ b. b || on_way n (to (at o) o) q) i) ∙ h) in let lt = r.1 in (suc r.0, omega (arith, lt), r.2)

  placed_on_way : (n o j : ℕ) → j < n → on_way n o (walk j o) ≡ true
  placed_on_way zero o j lt = absurd (omega (arith, lt))
  placed_on_way (suc n) o zero lt = ap (λ b. b || on_way n (to (at o) o) o) (equals o)
  placed_on_way (suc n) o (suc j) lt = either (o == walk j (to (at o) o)) _ (placed_on_way n (to (at o) o) j (omega (arith, lt)))
    where
      either : (a b : Bool) → b ≡ true → (a || b) ≡ true
      either true b i = refl
      either false b i = i

  calls_next : (s : Stance) (o : ℕ) → is_calling s ≡ true → s ≡ Calls (to s o)
  calls_next Free o h = absurd (cc)
  calls_next Over o h = absurd (cc)
  calls_next (Calls b) o h = refl

-- no object of the walk from a caught one is free
module _ (p : ProgramTree) (c : Configuration) (o : ℕ) where
  never : (caught : IsCaught p c o) (n q : ℕ) → (caught.these q ≡ true) ⊎ (stance p c q ≡ Over) → never_free (stance p c) n q ≡ true
  never caught zero q h = refl
  never caught (suc n) q (inl i) = let w = caught.each q i in ap (λ s. goes_by s (never_free (stance p c) n)) w.calls ∙ never caught n w.receiver w.held
  never caught (suc n) q (inr i) = ap (λ s. goes_by s (never_free (stance p c) n)) i

  pub caught_tells : IsCaught p c o → is_caught p c o ≡ true
  caught_tells caught =
      let w = caught.each o caught.one in
      let n = never caught (suc (length c.objects)) o (inl caught.one) in
      ap (λ s. is_calling s && never_free (stance p c) (suc (length c.objects)) o) w.calls ∙ n

  -- after m calls the walk is at an object that is over, or at one that it has met before
  abbrev Ends : ℕ → Type 0
  Ends m = (stance p c (walk (stance p c) m o) ≡ Over) ⊎ ((i : ℕ) × (i < m) × (walk (stance p c) i o ≡ walk (stance p c) m o))

  by_way : (m : ℕ) → zero < m → AllCall (stance p c) m o → Ends m → IsCaught p c o
  by_way m some all ends = record { these = on_way (stance p c) m o; one = placed_on_way (stance p c) m o 0 some; each = λ q i. by q (has_place (stance p c) m o q i) }
    where
      by : (q : ℕ) → (j : ℕ) × (j < m) × (walk (stance p c) j o ≡ q) → WaitsFor p c (on_way (stance p c) m o) q
      by q h =
          let lt = h.1 in
          let s = stance p c (walk (stance p c) h.0 o) in
          record {
            receiver = walk (stance p c) (suc h.0) o;
            calls =
                ap (stance p c) (sym h.2) ∙ calls_next (stance p c) (stance p c (walk (stance p c) h.0 o)) (walk (stance p c) h.0 o) (all h.0 h.1)
                ∙ ap Calls (sym (walk_one_more (stance p c) h.0 o));
            held = on (decide (suc h.0) m);
          }
        where
          on : (suc h.0 ≡ m) ⊎ (suc h.0 ≢ m) → (on_way (stance p c) m o (walk (stance p c) (suc h.0) o) ≡ true) ⊎ (stance p c (walk (stance p c) (suc h.0) o) ≡ Over)
          on (inr n) = let lt = h.1 in inl (placed_on_way (stance p c) m o (suc h.0) (omega (arith, lt, n)))
          on (inl e) = last ends
            where
              last : Ends m → (on_way (stance p c) m o (walk (stance p c) (suc h.0) o) ≡ true) ⊎ (stance p c (walk (stance p c) (suc h.0) o) ≡ Over)
              last (inl f) = inr (ap (λ k. stance p c (walk (stance p c) k o)) e ∙ f)
              last (inr g) = inl (ap (on_way (stance p c) m o) (ap (λ k. walk (stance p c) k o) e ∙ sym g.2) ∙ placed_on_way (stance p c) m o g.0 g.1)

-- the place of a name among the objects
abbrev place : List (ℕ × Object) → ℕ → ℕ
place [] q = 0
place (e ∷ es) q = cond (is_eq (nat_cmp q e.0)) 0 (suc (place es q))

abbrev name_at : List (ℕ × Object) → ℕ → ℕ
name_at [] i = 0
name_at (e ∷ es) zero = e.0
name_at (e ∷ es) (suc i) = name_at es i

placed : (q : ℕ) (x : Object) (es : List (ℕ × Object)) → find nat_cmp q es ≡ Some x → (place es q < length es) × (name_at es (place es q) ≡ q)
placed q x [] h = absurd (cc)
placed q x (e ∷ es) h = by (nat_cmp q e.0) refl h (placed q x es)
  where
    behind : is_eq (nat_cmp q e.0) ≡ false → (place es q < length es) × (name_at es (place es q) ≡ q) → (place (e ∷ es) q < length (e ∷ es)) × (name_at (e ∷ es) (place (e ∷ es) q) ≡ q)
    behind i r =
        let lt = r.0 in
        let is : suc (place es q) ≡ place (e ∷ es) q = sym (ap (λ b. cond b 0 (suc (place es q))) i) in
        let more : suc (place es q) < length (e ∷ es) = omega (arith, lt) in
        (subst (λ (k : ℕ). k < length (e ∷ es)) is more, ap (name_at (e ∷ es)) (sym is) ∙ r.1)

    by : (r : Ordering) → nat_cmp q e.0 ≡ r → cond (is_eq (nat_cmp q e.0)) (Some e.1) (find nat_cmp q es) ≡ Some x
        → (find nat_cmp q es ≡ Some x → (place es q < length es) × (name_at es (place es q) ≡ q)) → (place (e ∷ es) q < length (e ∷ es)) × (name_at (e ∷ es) (place (e ∷ es) q) ≡ q)
    by Less j h rest = behind (ap is_eq j) (rest (sym (ap (λ r. cond (is_eq r) (Some e.1) (find nat_cmp q es)) j) ∙ h))
    by Greater j h rest = behind (ap is_eq j) (rest (sym (ap (λ r. cond (is_eq r) (Some e.1) (find nat_cmp q es)) j) ∙ h))
    by Equal j h rest =
        let is : 0 ≡ place (e ∷ es) q = sym (ap (λ r. cond (is_eq r) 0 (suc (place es q))) j) in
        let more : 0 < length (e ∷ es) = omega arith in
        (subst (λ (k : ℕ). k < length (e ∷ es)) is more, ap (name_at (e ∷ es)) (sym is) ∙ sym (nat_cmp-IsAntisymmetric q e.0 j))

module _ (p : ProgramTree) (c : Configuration) where
  caller_placed : (q : ℕ) → is_calling (stance p c q) ≡ true → (place c.objects q < length c.objects) × (name_at c.objects (place c.objects q) ≡ q)
  caller_placed q h = by (object_of c q) refl h
    where
      by : (x : Option Object) → object_of c q ≡ x → is_calling (stance_in p q x) ≡ true → (place c.objects q < length c.objects) × (name_at c.objects (place c.objects q) ≡ q)
      by None i h = absurd (cc)
      by (Some x) i h = placed q x c.objects i

  pub is_told_caught : (o : ℕ) → is_caught p c o ≡ true → IsCaught p c o
  is_told_caught o h =
      let calls = first (is_calling (stance p c o)) (never_free (stance p c) (suc (length c.objects)) o) h in
      by calls (comes (stance p c) (suc (length c.objects)) o (second (is_calling (stance p c o)) (never_free (stance p c) (suc (length c.objects)) o) h))
    where
      round : AllCall (stance p c) (suc (length c.objects)) o → Meets (λ j. place c.objects (walk (stance p c) j o)) (suc (length c.objects)) → IsCaught p c o
      round all m =
          let lt = m.within in
          let here = caller_placed (walk (stance p c) m.first o) (all m.first (omega (arith, lt))) in
          let there = caller_placed (walk (stance p c) (suc (m.first + m.between)) o) (all (suc (m.first + m.between)) m.within) in
          by_way p c o (suc (m.first + m.between)) (omega arith) (λ j k. all j (omega (arith, k, lt)))
          (inr (m.first, omega arith, sym here.1 ∙ ap (name_at c.objects) m.same ∙ there.1))

      by : is_calling (stance p c o) ≡ true → Comes (stance p c) (suc (length c.objects)) o → IsCaught p c o
      by calls (ToOver zero all e) = absurd (let z : true ≡ false = sym calls ∙ ap is_calling e in cc)
      by calls (ToOver (suc k) all e) = by_way p c o (suc k) (omega arith) all (inl e)
      by calls (OnAndOn all) = round all (pigeons (length c.objects) (λ j. place c.objects (walk (stance p c) j o)) (λ j lt. let r = caller_placed (walk (stance p c) j o) (all j lt) in r.0))
