-- The order of places, component by component.
use Rattle.std.proofs.Common.{◌≡◌, ◌⊎◌, ℕ, ◌<◌, inl, inr, arith, Option, Some, None, refl, sym, ap, ◌∙◌}
use Rattle.std.specs.Ordering.{ordering_then, nat_cmp, MatchOrdering}
use Rattle.std.specs.Option.{option_cmp}
use Rattle.std.specs.declared.cmp.Ordering.{Ordering}
use Rattle.std.specs.declared.cmp.Ordering.TheVariants.{Less, Equal, Greater}
use Rattle.std.proofs.lemmas.Cmp.{ranked}
use Rattle.node_state.specs.declared.long.AnswerPlace.{AnswerPlace}
use Rattle.node_state.specs.LongAnswers.{place_order}

abbrev pub IsMethodBefore : Option ℕ → Option ℕ → Type 0
IsMethodBefore None None = ⊥
IsMethodBefore None (Some n) = Unit {0}
IsMethodBefore (Some m) None = ⊥
IsMethodBefore (Some m) (Some n) = m < n

-- the first component that differs is less
abbrev pub IsBefore : AnswerPlace → AnswerPlace → Type 0
IsBefore q p = (q.class < p.class) ⊎ ((q.class ≡ p.class) × (IsMethodBefore q.method p.method ⊎ ((q.method ≡ p.method) × ((q.at < p.at) ⊎ ((q.at ≡ p.at) × (q.alt < p.alt))))))

-- ---- an order is less by its first part, or by its second one

then_less : (r s : Ordering) → ordering_then r s ≡ Less → (r ≡ Less) ⊎ ((r ≡ Equal) × (s ≡ Less))
then_less Less s h = inl refl
then_less Equal s h = inr (refl, h)
then_less Greater s h = absurd (cc)

then_equal : (r s : Ordering) → ordering_then r s ≡ Equal → (r ≡ Equal) × (s ≡ Equal)
then_equal Less s h = absurd (cc)
then_equal Equal s h = (refl, h)
then_equal Greater s h = absurd (cc)

less_first : (r s : Ordering) → r ≡ Less → ordering_then r s ≡ Less
less_first r s h = ap (λ o. ordering_then o s) h

less_second : (r s : Ordering) → r ≡ Equal → s ≡ Less → ordering_then r s ≡ Less
less_second r s h g = ap (λ o. ordering_then o s) h ∙ g

-- ---- the components

number_less : (m n : ℕ) → nat_cmp m n ≡ Less → m < n
number_less m n h = ranked m n Less (sym h)

number_equal : (m n : ℕ) → nat_cmp m n ≡ Equal → m ≡ n
number_equal m n h = ranked m n Equal (sym h)

less_number : (m n : ℕ) → m < n → nat_cmp m n ≡ Less
less_number m n h = by (nat_cmp m n) (ranked m n (nat_cmp m n) refl)
  where
    by : (r : Ordering) → MatchOrdering r (m < n) (m ≡ n) (n < m) → r ≡ Less
    by Less l = refl
    by Equal e = absurd (omega arith)
    by Greater g = absurd (omega arith)

equal_number : (m n : ℕ) → m ≡ n → nat_cmp m n ≡ Equal
equal_number m n h = by (nat_cmp m n) (ranked m n (nat_cmp m n) refl)
  where
    by : (r : Ordering) → MatchOrdering r (m < n) (m ≡ n) (n < m) → r ≡ Equal
    by Less l = absurd (omega arith)
    by Equal e = refl
    by Greater g = absurd (omega arith)

method_less : (m n : Option ℕ) → option_cmp nat_cmp m n ≡ Less → IsMethodBefore m n
method_less None None h = cc
method_less None (Some n) h = tt
method_less (Some m) None h = cc
method_less (Some m) (Some n) h = number_less m n h

method_equal : (m n : Option ℕ) → option_cmp nat_cmp m n ≡ Equal → m ≡ n
method_equal None None h = refl
method_equal None (Some n) h = cc
method_equal (Some m) None h = cc
method_equal (Some m) (Some n) h = ap Some (number_equal m n h)

less_method : (m n : Option ℕ) → IsMethodBefore m n → option_cmp nat_cmp m n ≡ Less
less_method None None h = absurd h
less_method None (Some n) h = refl
less_method (Some m) None h = absurd h
less_method (Some m) (Some n) h = less_number m n h

equal_method : (m n : Option ℕ) → m ≡ n → option_cmp nat_cmp m n ≡ Equal
equal_method None None h = refl
equal_method None (Some n) h = absurd (cc)
equal_method (Some m) None h = absurd (cc)
equal_method (Some m) (Some n) h = equal_number m n (let same : Some m ≡ Some n = h in cc)

-- ---- the places

module _ (q p : AnswerPlace) where
  pub before : place_order q p ≡ Less → IsBefore q p
  before h = by_class (then_less (nat_cmp q.class p.class) _ h)
    where
      by_alt : (nat_cmp q.at p.at ≡ Less) ⊎ ((nat_cmp q.at p.at ≡ Equal) × (nat_cmp q.alt p.alt ≡ Less)) → (q.at < p.at) ⊎ ((q.at ≡ p.at) × (q.alt < p.alt))
      by_alt (inl l) = inl (number_less _ _ l)
      by_alt (inr e) = inr (number_equal _ _ e.0, number_less _ _ e.1)

      by_method : (option_cmp nat_cmp q.method p.method ≡ Less) ⊎ ((option_cmp nat_cmp q.method p.method ≡ Equal) × (ordering_then (nat_cmp q.at p.at) (nat_cmp q.alt p.alt) ≡ Less))
          → IsMethodBefore q.method p.method ⊎ ((q.method ≡ p.method) × ((q.at < p.at) ⊎ ((q.at ≡ p.at) × (q.alt < p.alt))))
      by_method (inl l) = inl (method_less _ _ l)
      by_method (inr e) = inr (method_equal _ _ e.0, by_alt (then_less (nat_cmp q.at p.at) _ e.1))

      by_class : (nat_cmp q.class p.class ≡ Less) ⊎ ((nat_cmp q.class p.class ≡ Equal) × (ordering_then (option_cmp nat_cmp q.method p.method) (ordering_then (nat_cmp q.at p.at) (nat_cmp q.alt p.alt)) ≡ Less)) → IsBefore q p
      by_class (inl l) = inl (number_less _ _ l)
      by_class (inr e) = inr (number_equal _ _ e.0, by_method (then_less (option_cmp nat_cmp q.method p.method) _ e.1))

  pub less : IsBefore q p → place_order q p ≡ Less
  less (inl c) = less_first (nat_cmp q.class p.class) _ (less_number _ _ c)
  less (inr c) = less_second (nat_cmp q.class p.class) _ (equal_number _ _ c.0) (by c.1)
    where
      by : IsMethodBefore q.method p.method ⊎ ((q.method ≡ p.method) × ((q.at < p.at) ⊎ ((q.at ≡ p.at) × (q.alt < p.alt))))
          → ordering_then (option_cmp nat_cmp q.method p.method) (ordering_then (nat_cmp q.at p.at) (nat_cmp q.alt p.alt)) ≡ Less
      by (inl m) = less_first (option_cmp nat_cmp q.method p.method) _ (less_method _ _ m)
      by (inr m) = less_second (option_cmp nat_cmp q.method p.method) _ (equal_method _ _ m.0) (at m.1)
        where
          at : (q.at < p.at) ⊎ ((q.at ≡ p.at) × (q.alt < p.alt)) → ordering_then (nat_cmp q.at p.at) (nat_cmp q.alt p.alt) ≡ Less
          at (inl a) = less_first (nat_cmp q.at p.at) _ (less_number _ _ a)
          at (inr a) = less_second (nat_cmp q.at p.at) _ (equal_number _ _ a.0) (less_number _ _ a.1)

  pub same : place_order q p ≡ Equal → q ≡ p
  same h =
      let c = then_equal (nat_cmp q.class p.class) _ h in
      let m = then_equal (option_cmp nat_cmp q.method p.method) _ c.1 in
      let a = then_equal (nat_cmp q.at p.at) _ m.1 in
      λ i. record { class = number_equal q.class p.class c.0 i; method = method_equal q.method p.method m.0 i; at = number_equal q.at p.at a.0 i; alt = number_equal q.alt p.alt a.1 i }

  pub equal : q ≡ p → place_order q p ≡ Equal
  equal h = ap (λ o. ordering_then o (ordering_then (option_cmp nat_cmp q.method p.method) (ordering_then (nat_cmp q.at p.at) (nat_cmp q.alt p.alt)))) (equal_number _ _ (ap (λ r. r.class) h))
      ∙ ap (λ o. ordering_then o (ordering_then (nat_cmp q.at p.at) (nat_cmp q.alt p.alt))) (equal_method _ _ (ap (λ r. r.method) h))
      ∙ ap (λ o. ordering_then o (nat_cmp q.alt p.alt)) (equal_number _ _ (ap (λ r. r.at) h))
      ∙ equal_number _ _ (ap (λ r. r.alt) h)
