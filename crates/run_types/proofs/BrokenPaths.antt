-- A path is broken exactly if a walk along it takes a cut link or does not reach its goal. The walk has at most as
-- many links as there are nodes.
use Rattle.std.proofs.Common.{◌≡◌, ◌⊎◌, inl, inr, refl, sym, ap, subst, ◌∙◌, ℕ, zero, suc, ◌*◌, ◌<◌, ◌==◌, List, [], ◌∷◌, length, Bool, true, false, ◌||◌, if◌then◌else◌, arith}
use Rattle.std.specs.List.{list_any}
use Rattle.run_types.specs.declared.types.Placement.{Placement}
use Rattle.run_types.specs.Tables.{Pair}
use Rattle.run_types.specs.Paths.{is_cut, next, path, walk, ends_of}
use Rattle.run_types.specs.PathFacts.{Leads, In, Once}
use Rattle.run_types.specs.Routes.{has_twice, is_broken}
use Rattle.run_types.specs.RoutedPlacements.{IsRouted}
use Rattle.run_types.proofs.Tests.{equal, equals}
use Rattle.run_types.proofs.RoutedPaths.{nor, not_twice, too_long}

-- whether so many links from a on take a cut one, or do not come to b
abbrev pub follow : Placement → ℕ → ℕ → ℕ → Bool
follow l b zero a = true
follow l b (suc n) a = if a == b then false else (if is_cut l.cuts a (next l a b) then true else follow l b n (next l a b))

-- links that lead to b are determined by where they begin, so no node is twice among their ends
module _ (step : ℕ → ℕ → ℕ) (b : ℕ) where
  same_length : (ks js : List Pair) (a : ℕ) → Leads step b a ks → Leads step b a js → length ks ≡ length js
  same_length [] [] a h k = refl
  same_length [] (j ∷ js) a h k = absurd (k.0 h)
  same_length (i ∷ ks) [] a h k = absurd (h.0 k)
  same_length (i ∷ ks) (j ∷ js) a h k = ap suc (same_length ks js i.1 h.3 (subst (λ z. Leads step b z js) (k.2 ∙ sym h.2) k.3))

  rest_from : (ks : List Pair) (a m : ℕ) → Leads step b a ks → In m (ends_of ks) → (js : List Pair) × Leads step b m js × (length js < length ks)
  rest_from [] a m h i = absurd i
  rest_from (k ∷ ks) a m h (inl e) = (ks, subst (λ z. Leads step b z ks) e h.3, omega arith)
  rest_from (k ∷ ks) a m h (inr i) = let r = rest_from ks k.1 m h.3 i in (r.0, r.1, let less = r.2 in omega (arith, less))

  pub leads_once : (ks : List Pair) (a : ℕ) → Leads step b a ks → Once (a ∷ ends_of ks)
  leads_once [] a h = (λ i. i, tt)
  leads_once (k ∷ ks) a h =
      ((λ i. absurd (let r = rest_from (k ∷ ks) a a h i in let same = same_length (k ∷ ks) r.0 a h r.1 in let less = r.2 in omega (arith, same, less))), leads_once ks k.1 h.3)

module _ (l : Placement) (b : ℕ) where
  came : (n a : ℕ) → follow l b n a ≡ false → Leads (next l) b a (walk (next l) n a b) × (list_any (λ (k : Pair). is_cut l.cuts k.0 k.1) (walk (next l) n a b) ≡ false)
  came zero a h = absurd (cc)
  came (suc n) a h = by (a == b) (is_cut l.cuts a (next l a b)) refl refl (came n (next l a b))
    where
      by : (t u : Bool) → (a == b) ≡ t → is_cut l.cuts a (next l a b) ≡ u
          → (follow l b n (next l a b) ≡ false → Leads (next l) b (next l a b) (walk (next l) n (next l a b) b)
          × (list_any (λ (k : Pair). is_cut l.cuts k.0 k.1) (walk (next l) n (next l a b) b) ≡ false))
          → Leads (next l) b a (walk (next l) (suc n) a b) × (list_any (λ (k : Pair). is_cut l.cuts k.0 k.1) (walk (next l) (suc n) a b) ≡ false)
      by true u e f go = rw e (equal a b e, refl)
      by false true e f go = absurd (let s = rw (e, f) at h in cc)
      by false false e f go =
          let r = go (rw (e, f) at h) in
          rw e ((λ s. absurd (let q : (a == b) ≡ true = rw s (equals b) in grind (arith, e, q)), refl, refl, r.0), nor (is_cut l.cuts a (next l a b)) (list_any (λ (k : Pair). is_cut l.cuts k.0 k.1) (walk (next l) n (next l a b) b)) f r.1)

  lost : (n a : ℕ) → follow l b n a ≡ true → (list_any (λ (k : Pair). is_cut l.cuts k.0 k.1) (walk (next l) n a b) ≡ true) ⊎ (length (walk (next l) n a b) ≡ n)
  lost zero a h = inr refl
  lost (suc n) a h = by (a == b) (is_cut l.cuts a (next l a b)) refl refl (lost n (next l a b))
    where
      by : (t u : Bool) → (a == b) ≡ t → is_cut l.cuts a (next l a b) ≡ u
          → (follow l b n (next l a b) ≡ true → (list_any (λ (k : Pair). is_cut l.cuts k.0 k.1) (walk (next l) n (next l a b) b) ≡ true) ⊎ (length (walk (next l) n (next l a b) b) ≡ n))
          → (list_any (λ (k : Pair). is_cut l.cuts k.0 k.1) (walk (next l) (suc n) a b) ≡ true) ⊎ (length (walk (next l) (suc n) a b) ≡ suc n)
      by true u e f go = absurd (let s = rw e at h in cc)
      by false true e f go = inl (rw (e, f) refl)
      by false false e f go = on (go (rw (e, f) at h))
        where
          on : (list_any (λ (k : Pair). is_cut l.cuts k.0 k.1) (walk (next l) n (next l a b) b) ≡ true) ⊎ (length (walk (next l) n (next l a b) b) ≡ n)
              → (list_any (λ (k : Pair). is_cut l.cuts k.0 k.1) (walk (next l) (suc n) a b) ≡ true) ⊎ (length (walk (next l) (suc n) a b) ≡ suc n)
          on (inl k) = inl (rw (e, f) k)
          on (inr k) = inr (rw e (ap suc k))

pub followed : (l : Placement) → IsRouted l → (a b : ℕ) → a < l.width * l.height → b < l.width * l.height → follow l b (l.width * l.height) a ≡ is_broken l a b
followed l r a b i j = by (follow l b (l.width * l.height) a) refl
  where
    by : (t : Bool) → follow l b (l.width * l.height) a ≡ t → follow l b (l.width * l.height) a ≡ is_broken l a b
    by false e =
        let c = came l b (l.width * l.height) a e in
        e ∙ sym (nor (list_any (λ (k : Pair). is_cut l.cuts k.0 k.1) (path l a b)) (has_twice (a ∷ ends_of (path l a b))) c.1 (not_twice (a ∷ ends_of (path l a b)) (leads_once (next l) b (path l a b) a c.0)))
    by true e = e ∙ sym (on (lost l b (l.width * l.height) a e))
      where
        or_true : (p q : Bool) → q ≡ true → (p || q) ≡ true
        or_true true q h = refl
        or_true false q h = h

        on : (list_any (λ (k : Pair). is_cut l.cuts k.0 k.1) (path l a b) ≡ true) ⊎ (length (path l a b) ≡ l.width * l.height) → is_broken l a b ≡ true
        on (inl k) = rw k refl
        on (inr k) = twice (has_twice (a ∷ ends_of (path l a b))) refl
          where
            twice : (t : Bool) → has_twice (a ∷ ends_of (path l a b)) ≡ t → is_broken l a b ≡ true
            twice true h = or_true (list_any (λ (k : Pair). is_cut l.cuts k.0 k.1) (path l a b)) (has_twice (a ∷ ends_of (path l a b))) h
            twice false h = absurd (too_long l r a b i j h k)
