-- Chains of indices that each come after the one before, and the cycles that they close.
use Rattle.std.proofs.Common.{◌≡◌, ◌≢◌, ◌⊎◌, inl, inr, refl, sym, ap, subst, ◌∙◌, ℕ, ◌<◌, ◌≤◌, ◌==◌, List, [], ◌∷◌, ◌++◌, Option, Some, None, Bool, true, false, nat_lt, cond, arith}
use Rattle.run_types.specs.PathFacts.{In}
use Rattle.mesh_semantics.specs.Cycles.{Closes}
use Rattle.run_types.proofs.Laws.{decide, equals, differ, same_some}
use Rattle.wait_report.specs.Cycles.{least_of, least_from}

module _ (jump : ℕ → Option ℕ) where
  abbrev pub first_or : List ℕ → ℕ → ℕ
  first_or [] at = at
  first_or (x ∷ xs) at = x

  -- each place comes after the one before, and `at` after the last
  abbrev pub Chain : List ℕ → ℕ → Type 0
  Chain [] at = Unit {0}
  Chain (x ∷ xs) at = (jump x ≡ Some (first_or xs at)) × Chain xs at

  -- what holds of a place holds of the next one
  abbrev pub GoesOn : (ℕ → Type 0) → Type 0
  GoesOn Q = (k j : ℕ) → Q k → jump k ≡ Some j → Q j

  pub chain_push : (path : List ℕ) (at b : ℕ) → Chain path at → jump at ≡ Some b → Chain (path ++ at ∷ []) b
  chain_push [] at b c e = (e, tt)
  chain_push (x ∷ xs) at b c e = (c.0 ∙ ap Some (front xs), chain_push xs at b c.1 e)
    where
      front : (xs : List ℕ) → first_or xs at ≡ first_or (xs ++ at ∷ []) b
      front [] = refl
      front (y ∷ ys) = refl

  pub reach : (Q : ℕ → Type 0) → GoesOn Q → (path : List ℕ) (at k : ℕ) → Chain path at → In k path → Q k → Q at
  reach Q g [] at k c i q = absurd i
  reach Q g (x ∷ []) at k c (inl e) q = g x at (subst Q (sym e) q) c.0
  reach Q g (x ∷ y ∷ ys) at k c (inl e) q = reach Q g (y ∷ ys) at y c.1 (inl refl) (g x y (subst Q (sym e) q) c.0)
  reach Q g (x ∷ xs) at k c (inr i) q = reach Q g xs at k c.1 i q

  reach_all : (Q : ℕ → Type 0) → GoesOn Q → (x : ℕ) (xs : List ℕ) (at k : ℕ) → Chain (x ∷ xs) at → Q x → In k (x ∷ xs) → Q k
  reach_all Q g x xs at k c q (inl e) = subst Q e q
  reach_all Q g x [] at k c q (inr i) = absurd i
  reach_all Q g x (y ∷ ys) at k c q (inr i) = reach_all Q g y ys at k c.1 (g x y q c.0) i

  next_in : (xs : List ℕ) (at k j : ℕ) → Chain xs at → In k xs → jump k ≡ Some j → (j ≡ at) ⊎ In j xs
  next_in [] at k j c i e = absurd i
  next_in (x ∷ []) at k j c (inl s) e = inl (same_some (sym e ∙ ap jump (sym s) ∙ c.0))
  next_in (x ∷ y ∷ ys) at k j c (inl s) e = inr (inr (inl (same_some (sym c.0 ∙ ap jump s ∙ e))))
  next_in (x ∷ xs) at k j c (inr i) e = on (next_in xs at k j c.1 i e)
    where
      on : (j ≡ at) ⊎ In j xs → (j ≡ at) ⊎ In j (x ∷ xs)
      on (inl s) = inl s
      on (inr i) = inr (inr i)

  module _ (f : ℕ) where
    pub back : (Q : ℕ → Type 0) → GoesOn Q → (o : ℕ) (ns : List ℕ) (k : ℕ) → Closes jump f (o ∷ ns) → In k (o ∷ ns) → Q k → Q f
    back Q g o [] k z (inl e) q = g o f (subst Q (sym e) q) z
    back Q g o [] k z (inr i) q = absurd i
    back Q g o (b ∷ ns) k z (inl e) q = back Q g b ns b z.2 (inl refl) (g o b (subst Q (sym e) q) z.0)
    back Q g o (b ∷ ns) k z (inr i) q = back Q g b ns k z.2 i q

    pub after : (o : ℕ) (ns : List ℕ) (k j : ℕ) → Closes jump f (o ∷ ns) → In k (o ∷ ns) → jump k ≡ Some j → (j ≡ f) ⊎ In j (o ∷ ns)
    after o [] k j z (inl s) e = inl (same_some (sym e ∙ ap jump (sym s) ∙ z))
    after o [] k j z (inr i) e = absurd i
    after o (b ∷ ns) k j z (inl s) e = inr (inr (inl (same_some (sym z.0 ∙ ap jump s ∙ e))))
    after o (b ∷ ns) k j z (inr i) e = on (after b ns k j z.2 i e)
      where
        on : (j ≡ f) ⊎ In j (b ∷ ns) → (j ≡ f) ⊎ In j (o ∷ b ∷ ns)
        on (inl s) = inl s
        on (inr i) = inr (inr i)

    pub goes : (o : ℕ) (ns : List ℕ) (k : ℕ) → Closes jump f (o ∷ ns) → In k (o ∷ ns) → jump k ≢ None
    goes o [] k z (inl e) n = absurd (let q = sym z ∙ ap jump e ∙ n in cc)
    goes o [] k z (inr i) n = absurd i
    goes o (b ∷ ns) k z (inl e) n = absurd (let q = sym z.0 ∙ ap jump e ∙ n in cc)
    goes o (b ∷ ns) k z (inr i) n = goes b ns k z.2 i n

    pub no_less : (o : ℕ) (ns : List ℕ) (k : ℕ) → Closes jump f (o ∷ ns) → f ≤ o → In k (o ∷ ns) → f ≤ k
    no_less o ns k z l (inl e) = subst (λ n. f ≤ n) e l
    no_less o [] k z l (inr i) = absurd i
    no_less o (b ∷ ns) k z l (inr i) = no_less b ns k z.2 (let m = z.1 in omega (arith, m)) i

  least_is : (i l : ℕ) (xs : List ℕ) → ((k : ℕ) → In k (l ∷ xs) → i ≤ k) → In i (l ∷ xs) → least_of l xs ≡ i
  least_is i l [] m (inl e) = e
  least_is i l [] m (inr p) = absurd p
  least_is i l (x ∷ xs) m p = by (nat_lt x l) refl (λ y. least_is i y xs)
    where
      by : (t : Bool) → nat_lt x l ≡ t → ((y : ℕ) → ((k : ℕ) → In k (y ∷ xs) → i ≤ k) → In i (y ∷ xs) → least_of y xs ≡ i) → least_of l (x ∷ xs) ≡ i
      by true e go = ap (λ z. least_of (cond z x l) xs) e ∙ go x (λ k q. m k (inr q)) (on p)
        where
          on : In i (l ∷ x ∷ xs) → In i (x ∷ xs)
          on (inl s) = absurd (let h : x < l = grind (arith, e) in let k = m x (inr (inl refl)) in omega (arith, h, k, s))
          on (inr q) = q
      by false e go = ap (λ z. least_of (cond z x l) xs) e ∙ go l (λ k q. m k (keep k q)) (on p)
        where
          keep : (k : ℕ) → In k (l ∷ xs) → In k (l ∷ x ∷ xs)
          keep k (inl s) = inl s
          keep k (inr q) = inr (inr q)

          on : In i (l ∷ x ∷ xs) → In i (l ∷ xs)
          on (inl s) = inl s
          on (inr (inl s)) = let h : l ≤ x = grind (arith, e) in let k = m l (inl refl) in inl (omega (arith, h, k, s))
          on (inr (inr q)) = inr q

  -- where a cycle with this least place has `at`, the least place of the chain from `at` on is it
  pub least_found : (i : ℕ) (ns : List ℕ) (path : List ℕ) (at : ℕ) → Closes jump i (i ∷ ns) → Chain path at → In at path → In at (i ∷ ns) → least_from at path ≡ Some i
  least_found i ns [] at z c p h = absurd p
  least_found i ns (x ∷ xs) at z c p h = by (decide x at) p (least_found i ns xs at z c.1)
    where
      in_cycle : GoesOn (λ k. In k (i ∷ ns))
      in_cycle k j q e = on (after i i ns k j z q e)
        where
          on : (j ≡ i) ⊎ In j (i ∷ ns) → In j (i ∷ ns)
          on (inl s) = inl (sym s)
          on (inr q) = q

      by : (x ≡ at) ⊎ (x ≢ at) → In at (x ∷ xs) → (In at xs → In at (i ∷ ns) → least_from at xs ≡ Some i) → least_from at (x ∷ xs) ≡ Some i
      by (inl s) p go =
          ap (λ b. cond b (Some (least_of x xs)) (least_from at xs)) (ap (λ y. y == at) s ∙ equals at)
          ∙ ap Some (least_is i x xs
          (λ k q. no_less i i ns k z (omega arith) (reach_all (λ k. In k (i ∷ ns)) in_cycle x xs at k c (subst (λ y. In y (i ∷ ns)) (sym s) h) q))
          (back i (λ k. In k (x ∷ xs)) in_rest i ns at z h p))
        where
          in_rest : GoesOn (λ k. In k (x ∷ xs))
          in_rest k j q e = on (next_in (x ∷ xs) at k j c q e)
            where
              on : (j ≡ at) ⊎ In j (x ∷ xs) → In j (x ∷ xs)
              on (inl t) = inl (s ∙ sym t)
              on (inr q) = q
      by (inr n) p go = ap (λ b. cond b (Some (least_of x xs)) (least_from at xs)) (differ x at n) ∙ go (on p) h
        where
          on : In at (x ∷ xs) → In at xs
          on (inl s) = absurd (n s)
          on (inr q) = q

-- the least place is one of them
least_in : (l : ℕ) (xs : List ℕ) → In (least_of l xs) (l ∷ xs)
least_in l [] = inl refl
least_in l (x ∷ xs) = by (nat_lt x l) refl (λ y. least_in y xs)
  where
    by : (t : Bool) → nat_lt x l ≡ t → ((y : ℕ) → In (least_of y xs) (y ∷ xs)) → In (least_of l (x ∷ xs)) (l ∷ x ∷ xs)
    by true e go = subst (λ z. In (least_of (cond z x l) xs) (l ∷ x ∷ xs)) (sym e) (inr (go x))
    by false e go = subst (λ z. In (least_of (cond z x l) xs) (l ∷ x ∷ xs)) (sym e) (on (go l))
      where
        on : In (least_of l xs) (l ∷ xs) → In (least_of l xs) (l ∷ x ∷ xs)
        on (inl s) = inl s
        on (inr q) = inr (inr q)

pub in_chain : (at l : ℕ) (path : List ℕ) → least_from at path ≡ Some l → In l path
in_chain at l [] e = absurd (cc)
in_chain at l (x ∷ xs) e = by (x == at) refl (in_chain at l xs)
  where
    by : (t : Bool) → (x == at) ≡ t → (least_from at xs ≡ Some l → In l xs) → In l (x ∷ xs)
    by true s go = subst (λ z. In z (x ∷ xs)) (same_some (sym (ap (λ b. cond b (Some (least_of x xs)) (least_from at xs)) s) ∙ e)) (least_in x xs)
    by false s go = inr (go (sym (ap (λ b. cond b (Some (least_of x xs)) (least_from at xs)) s) ∙ e))
