-- Code in which each place has one stack, found in the order of the list.
use Rattle.std.proofs.Common.{◌≡◌, inl, inr, refl, sym, ap, subst, ◌∙◌, ℕ, zero, suc, ◌+◌, ◌<◌, ◌≤◌, List, [], ◌∷◌, ◌++◌, length, Option, Some, None, arith, length-append}
use Rattle.std.specs.Prelude.{slice_get}
use Rattle.run_types.proofs.Laws.{same_some}
use Rattle.run_types.specs.Partial.{◌>>=◌}
use Rattle.code_semantics.specs.declared.unit.Instr.{Instr}
use Rattle.code_semantics.specs.ReachedPlaces.{nexts, IsAmong}
use Rattle.pool_compile.proofs.Laws.{Has, front, back}
use Rattle.code_typing.specs.Sorts.{Stack, CodeScope, left_by}
use Rattle.code_typing.specs.Verified.{ReachedBy}

-- the stack before a place, where each instruction goes on to the next of the list
abbrev pub stack_at : CodeScope → Option Stack → List Instr → ℕ → Option Stack
stack_at g s [] q = s
stack_at g s (i ∷ c) zero = s
stack_at g s (i ∷ c) (suc q) = stack_at g (s >>= λ r. left_by g i r) c q

stack_first : (g : CodeScope) (c : List Instr) → stack_at g (Some []) c 0 ≡ Some []
stack_first g [] = refl
stack_first g (i ∷ c) = refl

pub stack_next : (g : CodeScope) (s : Option Stack) (c : List Instr) (q : ℕ) (i : Instr) → slice_get c q ≡ Some i → stack_at g s c (suc q) ≡ (stack_at g s c q >>= λ r. left_by g i r)
stack_next g s [] q i e = absurd (let z : None ≡ Some i = e in cc)
stack_next g s (j ∷ c) (suc q) i e = stack_next g (s >>= λ r. left_by g j r) c q i e
stack_next g s (j ∷ []) zero i e = ap (λ k. s >>= λ r. left_by g k r) (same_some e)
stack_next g s (j ∷ l ∷ c) zero i e = ap (λ k. s >>= λ r. left_by g k r) (same_some e)

module _ (g : CodeScope) (c : List Instr) where
  abbrev pub S : ℕ → Option Stack
  S q = stack_at g (Some []) c q

  -- places to which this stack comes
  abbrev pub Led : Stack → List ℕ → Type 0
  Led r [] = Unit {0}
  Led r (t ∷ ts) = (S t ≡ Some r) × (t < length c) × Led r ts

  -- the instruction takes the stack of its place, and leaves that of each next place
  pub record Fine (q : ℕ) (i : Instr) : Type 0 where
    pub before : Stack
    pub is_before : S q ≡ Some before
    pub few : length before ≤ 64
    pub after : Stack
    pub is_after : left_by g i before ≡ Some after
    pub led : Led after (nexts q i)

  abbrev pub AllFine : ℕ → List Instr → Type 0
  AllFine q [] = Unit {0}
  AllFine q (i ∷ is) = Fine q i × AllFine (suc q) is

  pub join : (at : ℕ) (a b : List Instr) → AllFine at a → AllFine (at + length a) b → AllFine at (a ++ b)
  join at [] b x y = subst (λ n. AllFine n b) (let e : at + 0 ≡ at = omega arith in e) y
  join at (i ∷ a) b x y =
      (x.0, join (suc at) a b x.1 (subst (λ n. AllFine n b) (let e : at + suc (length a) ≡ suc at + length a = omega arith in e) y))

  -- instructions at a place that lead from one stack to another
  abbrev pub Good : ℕ → List Instr → Stack → Stack → Type 0
  Good at l s r = Has c at l → S at ≡ Some s → at + length l < length c → AllFine at l × (S (at + length l) ≡ Some r)

  pub good_seq : (at : ℕ) (a b : List Instr) (s t r : Stack) → Good at a s t → Good (at + length a) b t r → Good at (a ++ b) s r
  good_seq at a b s t r f h has e lt =
      let l = length-append a b in
      let x = f (front c at a b has) e (omega (arith, lt, l)) in
      let y = h (back c at a b has) x.1 (omega (arith, lt, l)) in
      (join at a b x.0 y.0, ap S (let q : at + length (a ++ b) ≡ at + length a + length b = omega (arith, l) in q) ∙ y.1)

  -- an instruction and the stack after it
  pub after_one : (q : ℕ) (i : Instr) (s r : Stack) → slice_get c q ≡ Some i → S q ≡ Some s → left_by g i s ≡ Some r → S (suc q) ≡ Some r
  after_one q i s r e b l = stack_next g (Some []) c q i e ∙ ap (λ z. z >>= λ r. left_by g i r) b ∙ l

  pub good_one : (at : ℕ) (i : Instr) (s r : Stack) → length s ≤ 64 → left_by g i s ≡ Some r → nexts at i ≡ suc at ∷ [] → Good at (i ∷ []) s r
  good_one at i s r le l next has e lt =
      let n = after_one at i s r has.0 e l in (
        (record { before = s; is_before = e; few = le; after = r; is_after = l; led = subst (Led r) (sym next) (n, omega (arith, lt), tt) }, tt),
        ap S (let q : at + 1 ≡ suc at = omega arith in q) ∙ n,
      )

  pub good_nil : (at : ℕ) (s : Stack) → Good at [] s s
  good_nil at s has e lt = (tt, ap S (let q : at + 0 ≡ at = omega arith in q) ∙ e)

  pub good_as : (at : ℕ) (l : List Instr) (s r t : Stack) → r ≡ t → Good at l s r → Good at l s t
  good_as at l s r t e f has q lt = let x = f has q lt in (x.0, x.1 ∙ ap Some e)

  fine_at : (at : ℕ) (l : List Instr) (j : ℕ) (i : Instr) → AllFine at l → slice_get l j ≡ Some i → Fine (at + j) i
  fine_at at [] j i x e = absurd (let z : None ≡ Some i = e in cc)
  fine_at at (d ∷ l) zero i x e = subst (λ n. Fine n i) (let z : at ≡ at + 0 = omega arith in z) (subst (Fine at) (same_some e) x.0)
  fine_at at (d ∷ l) (suc j) i x e = subst (λ n. Fine n i) (let z : suc at + j ≡ at + suc j = omega arith in z) (fine_at (suc at) l j i x.1 e)

  pub fine_here : (j : ℕ) (i : Instr) → AllFine 0 c → slice_get c j ≡ Some i → Fine j i
  fine_here j i x e = subst (λ n. Fine n i) (let z : 0 + j ≡ j = omega arith in z) (fine_at 0 c j i x e)

  led_at : (r : Stack) (ts : List ℕ) (t : ℕ) → Led r ts → IsAmong t ts → (S t ≡ Some r) × (t < length c)
  led_at r [] t l a = absurd a
  led_at r (x ∷ ts) t l (inl e) = subst (λ y. (S y ≡ Some r) × (y < length c)) e (l.0, l.1)
  led_at r (x ∷ ts) t l (inr a) = led_at r ts t l.2 a

  -- a place that is reached has its stack
  pub reached_is : AllFine 0 c → 0 < length c → (n at : ℕ) (s : Stack) → ReachedBy g c n at s → (S at ≡ Some s) × (at < length c)
  reached_is ok some zero at s r = (ap S r.0 ∙ stack_first g c ∙ ap Some (sym r.1), omega (arith, r.0, some))
  reached_is ok some (suc n) at s r =
      let before = reached_is ok some n r.0 r.1 r.3 in
      let f = fine_here r.0 r.2 ok r.5 in
      let same : f.before ≡ r.1 = same_some (sym f.is_before ∙ before.0) in
      let after : f.after ≡ s = same_some (sym f.is_after ∙ ap (left_by g r.2) same ∙ r.7) in
      let l = led_at f.after (nexts r.0 r.2) at f.led r.6 in
      (l.0 ∙ ap Some after, l.1)
