-- The greatest depth of the operand stack in a piece of code, and the places that are reached.
use Rattle.std.proofs.Common.{◌≡◌, ◌⊎◌, inl, inr, refl, sym, ap, subst, ◌∙◌, ℕ, zero, suc, ◌+◌, ◌<◌, ◌≤◌, List, [], ◌∷◌, ◌++◌, length, Some, Bool, true, false, arith, length-append}
use Rattle.std.specs.Prelude.{slice_get, nat_le, if◌then◌else◌}
use Rattle.run_types.proofs.Laws.{same_some}
use Rattle.code_semantics.specs.declared.unit.Instr.{Instr}
use Rattle.code_semantics.specs.ReachedPlaces.{nexts, IsAmong}
use Rattle.pool_compile.specs.Code.{more}
use Rattle.code_typing.specs.Sorts.{Stack, CodeScope, left_by}
use Rattle.code_typing.specs.Verified.{Reached}
use Rattle.compiler_correctness.proofs.Stacks.{S, AllFine, fine_here, reached_is}

pub more_is : (m n : ℕ) → (m ≤ more m n) × (n ≤ more m n) × ((more m n ≡ m) ⊎ (more m n ≡ n))
more_is m n = by (nat_le m n) refl
  where
    by : (b : Bool) → nat_le m n ≡ b → (m ≤ (if b then n else m)) × (n ≤ (if b then n else m)) × (((if b then n else m) ≡ m) ⊎ ((if b then n else m) ≡ n))
    by true e = (grind (arith, e), omega arith, inr refl)
    by false e = (omega arith, grind (arith, e), inl refl)

module _ (g : CodeScope) (c : List Instr) (ok : AllFine g c 0 c) (some : 0 < length c) where
  -- a place that is reached
  abbrev pub Comes : ℕ → Type 0
  Comes q = (t : Stack) × Reached g c q t

  pub comes_stack : (q : ℕ) → (h : Comes q) → S g c q ≡ Some h.0
  comes_stack q h = (reached_is g c ok some h.1.0 q h.0 h.1.1).0

  -- so is each place after its instruction
  pub comes_next : (q : ℕ) (i : Instr) (to : ℕ) → Comes q → slice_get c q ≡ Some i → IsAmong to (nexts q i) → Comes to
  comes_next q i to h e a =
      let f = fine_here g c q i ok e in
      let same : f.before ≡ h.0 = same_some (sym f.is_before ∙ comes_stack q h) in
      (f.after, (suc h.1.0, (q, h.0, i, h.1.1, subst (λ (z : Stack). length z ≤ 64) same f.few, e, a, subst (λ z. left_by g i z ≡ Some f.after) same f.is_after)))

  abbrev pub AtMost : ℕ → ℕ → Type 0
  AtMost n q = (t : Stack) → S g c q ≡ Some t → length t ≤ n

  abbrev pub AllAtMost : ℕ → ℕ → List Instr → Type 0
  AllAtMost n q [] = Unit {0}
  AllAtMost n q (i ∷ is) = AtMost n q × AllAtMost n (suc q) is

  pub more_at_most : (m n q : ℕ) (l : List Instr) → m ≤ n → AllAtMost m q l → AllAtMost n q l
  more_at_most m n q [] le h = tt
  more_at_most m n q (i ∷ l) le h = ((λ t e. let k = h.0 t e in omega (arith, k, le)), more_at_most m n (suc q) l le h.1)

  pub join_at_most : (n at : ℕ) (a b : List Instr) → AllAtMost n at a → AllAtMost n (at + length a) b → AllAtMost n at (a ++ b)
  join_at_most n at [] b x y = subst (λ m. AllAtMost n m b) (let e : at + 0 ≡ at = omega arith in e) y
  join_at_most n at (i ∷ a) b x y =
      (x.0, join_at_most n (suc at) a b x.1 (subst (λ m. AllAtMost n m b) (let e : at + suc (length a) ≡ suc at + length a = omega arith in e) y))

  pub at_most_at : (n at : ℕ) (l : List Instr) (j : ℕ) → j < length l → AllAtMost n at l → AtMost n (at + j)
  at_most_at n at [] j lt h = absurd (omega (arith, lt))
  at_most_at n at (i ∷ l) zero lt h = subst (AtMost n) (let z : at ≡ at + 0 = omega arith in z) h.0
  at_most_at n at (i ∷ l) (suc j) lt h = subst (AtMost n) (let z : suc at + j ≡ at + suc j = omega arith in z) (at_most_at n (suc at) l j (omega (arith, lt)) h.1)

  -- each place of a piece of code is reached
  abbrev pub AllCome : ℕ → List Instr → Type 0
  AllCome q [] = Unit {0}
  AllCome q (i ∷ is) = Comes q × AllCome (suc q) is

  pub join_come : (at : ℕ) (a b : List Instr) → AllCome at a → AllCome (at + length a) b → AllCome at (a ++ b)
  join_come at [] b x y = subst (λ m. AllCome m b) (let e : at + 0 ≡ at = omega arith in e) y
  join_come at (i ∷ a) b x y = (x.0, join_come (suc at) a b x.1 (subst (λ m. AllCome m b) (let e : at + suc (length a) ≡ suc at + length a = omega arith in e) y))

  pub come_at : (at : ℕ) (l : List Instr) (j : ℕ) → j < length l → AllCome at l → Comes (at + j)
  come_at at [] j lt h = absurd (omega (arith, lt))
  come_at at (i ∷ l) zero lt h = subst Comes (let z : at ≡ at + 0 = omega arith in z) h.0
  come_at at (i ∷ l) (suc j) lt h = subst Comes (let z : suc at + j ≡ at + suc j = omega arith in z) (come_at (suc at) l j (omega (arith, lt)) h.1)

  -- so many operands stand somewhere
  abbrev pub Met : ℕ → Type 0
  Met n = (q : ℕ) × (h : Comes q) × (length h.0 ≡ n)

  -- code in which n operands stand at once, and not more, of which each place is reached, and that comes to its end
  pub record Span (at : ℕ) (l : List Instr) (n : ℕ) : Type 0 where
    pub within : AllAtMost n at l
    pub each : AllCome at l
    pub last : AtMost n (at + length l)
    pub ends : Comes (at + length l)
    pub met : Met n

  pub span_nil : (at : ℕ) (h : Comes at) → Span at [] (length h.0)
  span_nil at h =
      let e : at ≡ at + 0 = omega arith in
      record {
        within = tt;
        each = tt;
        last = subst (AtMost (length h.0)) e (own at h);
        ends = subst Comes e h;
        met = (at, h, refl);
      }
    where
      own : (q : ℕ) (h : Comes q) (t : Stack) → S g c q ≡ Some t → length t ≤ length h.0
      own q h t e = let s : h.0 ≡ t = same_some (sym (comes_stack q h) ∙ e) in let z : length h.0 ≡ length t = ap (λ (y : Stack). length y) s in omega (arith, z)

  -- one piece after another
  pub span_seq : (at : ℕ) (a b : List Instr) (m n k : ℕ) → Span at a m → Span (at + length a) b n → m ≤ k → n ≤ k → (k ≡ m) ⊎ (k ≡ n) → Span at (a ++ b) k
  span_seq at a b m n k x y p q which =
      let l = length-append a b in
      let e : (at + length a) + length b ≡ at + length (a ++ b) = omega (arith, l) in
      record {
        within = join_at_most k at a b (more_at_most m k at a p x.within) (more_at_most n k (at + length a) b q y.within);
        each = join_come at a b x.each y.each;
        last = subst (AtMost k) e (λ t z. let i = y.last t z in omega (arith, i, q));
        ends = subst Comes e y.ends;
        met = by which;
      }
    where
      by : (k ≡ m) ⊎ (k ≡ n) → Met k
      by (inl e) = subst Met (sym e) x.met
      by (inr e) = subst Met (sym e) y.met

  -- an instruction that goes on to the next place
  pub span_one : (at : ℕ) (i : Instr) (s r : Stack) (n : ℕ) → slice_get c at ≡ Some i → nexts at i ≡ suc at ∷ [] → S g c at ≡ Some s → S g c (suc at) ≡ Some r → Comes at
      → length s ≤ n → length r ≤ n → (n ≡ length s) ⊎ (n ≡ length r) → Span at (i ∷ []) n
  span_one at i s r n e next before after h p q which =
      let z : suc at ≡ at + 1 = omega arith in
      let to : Comes (suc at) = comes_next at i (suc at) h e (subst (IsAmong (suc at)) (sym next) (inl refl)) in
      record {
        within = ((λ t k. let y : length s ≡ length t = ap (λ (x : Stack). length x) (same_some (sym before ∙ k)) in omega (arith, y, p)), tt);
        each = (h, tt);
        last = subst (AtMost n) z (λ t k. let y : length r ≡ length t = ap (λ (x : Stack). length x) (same_some (sym after ∙ k)) in omega (arith, y, q));
        ends = subst Comes z to;
        met = by to which;
      }
    where
      by : Comes (suc at) → (n ≡ length s) ⊎ (n ≡ length r) → Met n
      by to (inl k) = (at, h, ap (λ (x : Stack). length x) (same_some (sym (comes_stack at h) ∙ before)) ∙ sym k)
      by to (inr k) = (suc at, to, ap (λ (x : Stack). length x) (same_some (sym (comes_stack (suc at) to) ∙ after)) ∙ sym k)

  -- an instruction behind a piece, which leaves no more than stood before
  pub span_tail : (at : ℕ) (a : List Instr) (i : Instr) (n : ℕ) (r : Stack) → Span at a n → slice_get c (at + length a) ≡ Some i → nexts (at + length a) i ≡ suc (at + length a) ∷ []
      → S g c (at + length (a ++ i ∷ [])) ≡ Some r → length r ≤ n → Span at (a ++ i ∷ []) n
  span_tail at a i n r x e next after le =
      let l = length-append a (i ∷ []) in
      let z : suc (at + length a) ≡ at + length (a ++ i ∷ []) = omega (arith, l) in
      record {
        within = join_at_most n at a (i ∷ []) x.within (x.last, tt);
        each = join_come at a (i ∷ []) x.each (x.ends, tt);
        last = λ t k. let y : length r ≡ length t = ap (λ (x : Stack). length x) (same_some (sym after ∙ k)) in omega (arith, y, le);
        ends = subst Comes z (comes_next (at + length a) i (suc (at + length a)) x.ends e (subst (IsAmong (suc (at + length a))) (sym next) (inl refl)));
        met = x.met;
      }
