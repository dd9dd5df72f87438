-- Entries in the order of their keys, which are numbers.
use Rattle.std.proofs.Common.{◌≡◌, refl, ℕ, ◌<◌, ◌≤◌, ◌+◌, List, [], ◌∷◌, ◌++◌, Some, None, Bool, true, false, ◌==◌, arith}
use Rattle.std.specs.Ordering.{nat_cmp}
use Rattle.std.specs.declared.cmp.Ordering.TheVariants.{Less}
use Rattle.std.specs.Map.{lookup, remove_entry, keys_of, values_of}
use Rattle.std.specs.BTreeMap.{is_at, insert_entry}
use Rattle.std.specs.List.{AllByRecursion, find}
use Rattle.std.specs.List.Sorted.{IsStrictlySortedBy}
use Rattle.std.specs.Set.{remove_key}
use Rattle.std.proofs.lemmas.Map.Keys.{sorted_head, sorted_tail}
use Rattle.run_types.specs.Tables.{Each}

module _ {X : Type 0} where
  -- the key of what is found is above what all keys are above
  above_found : (a k : ℕ) (x : X) (es : List (ℕ × X)) → AllByRecursion (λ y. nat_cmp a y ≡ Less) (keys_of es) → lookup (is_at (nat_cmp k)) es ≡ Some x → a < k
  above_found a k x [] s h = absurd (grind arith)
  above_found a k x (e ∷ es) s h = by (k == e.0) refl (above_found a k x es s.1)
    where
      by : (b : Bool) → (k == e.0) ≡ b → (lookup (is_at (nat_cmp k)) es ≡ Some x → a < k) → a < k
      by true q i = let l = s.0 in grind (arith, q, l)
      by false q i = let j : lookup (is_at (nat_cmp k)) es ≡ Some x = grind (arith, q, h) in i j

  -- a number below which all keys are is no key
  pub none_from : (n k : ℕ) (es : List (ℕ × X)) → n ≤ k → Each (λ e. e.0 < n) es → lookup (is_at (nat_cmp k)) es ≡ None
  none_from n k [] l h = refl
  none_from n k (e ∷ es) l h = let i = none_from n k es l h.1 in let a = h.0 in grind (arith, i, a)

  -- an entry behind all others
  pub insert_last : (n : ℕ) (x : X) (es : List (ℕ × X)) → Each (λ e. e.0 < n) es → insert_entry nat_cmp es n x ≡ es ++ (n, x) ∷ []
  insert_last n x [] h = refl
  insert_last n x (e ∷ es) h = let i = insert_last n x es h.1 in let a = h.0 in grind (arith, i, a)

  pub values_last : (n : ℕ) (x : X) (es : List (ℕ × X)) → Each (λ e. e.0 < n) es → values_of (insert_entry nat_cmp es n x) ≡ values_of es ++ x ∷ []
  values_last n x [] h = refl
  values_last n x (e ∷ es) h = let i = values_last n x es h.1 in let a = h.0 in grind (arith, i, a)

  pub below_last : (n : ℕ) (x : X) (es : List (ℕ × X)) → Each (λ e. e.0 < n) es → Each (λ e. e.0 < n + 1) (insert_entry nat_cmp es n x)
  below_last n x es h = rw (insert_last n x es h) (by es h)
    where
      by : (fs : List (ℕ × X)) → Each (λ e. e.0 < n) fs → Each (λ e. e.0 < n + 1) (fs ++ (n, x) ∷ [])
      by [] i = (omega arith, tt)
      by (f ∷ fs) i = (omega (arith, i.0), by fs i.1)

  pub below_removed : (n : ℕ) (test : ℕ → Bool) (es : List (ℕ × X)) → Each (λ e. e.0 < n) es → Each (λ e. e.0 < n) (remove_entry test es)
  below_removed n test [] h = tt
  below_removed n test (e ∷ es) h = by (test e.0) refl (below_removed n test es h.1)
    where
      by : (b : Bool) → test e.0 ≡ b → Each (λ f. f.0 < n) (remove_entry test es) → Each (λ f. f.0 < n) (remove_entry test (e ∷ es))
      by true q i = rw q h.1
      by false q i = rw q (h.0, i)

  -- what holds of all that is found holds of each entry
  pub each_entry : (P : ℕ → X → Type 0) (es : List (ℕ × X)) → IsStrictlySortedBy nat_cmp (keys_of es) → ((j : ℕ) (x : X) → lookup (is_at (nat_cmp j)) es ≡ Some x → P j x) → Each (λ e. P e.0 e.1) es
  each_entry P [] s h = tt
  each_entry P (e ∷ es) s h = (h e.0 e.1 (grind arith), each_entry P es (sorted_tail nat_cmp e.0 (keys_of es) s) (λ j x i. h j x (behind j x i)))
    where
      behind : (j : ℕ) (x : X) → lookup (is_at (nat_cmp j)) es ≡ Some x → lookup (is_at (nat_cmp j)) (e ∷ es) ≡ Some x
      behind j x i = let l = above_found e.0 j x es (sorted_head nat_cmp e.0 (keys_of es) s) i in grind (arith, l, i)

  -- the entry of the least key that passes is the first that passes
  pub least_first : (p : X → Bool) (k : ℕ) (x : X) (es : List (ℕ × X)) → IsStrictlySortedBy nat_cmp (keys_of es) → lookup (is_at (nat_cmp k)) es ≡ Some x → p x ≡ true → Each (λ e. p e.1 ≡ true → k ≤ e.0) es
      → (find p (values_of es) ≡ Some x) × (remove_key p (values_of es) ≡ values_of (remove_entry (is_at (nat_cmp k)) es))
  least_first p k x [] s h t l = absurd (grind arith)
  least_first p k x (e ∷ es) s h t l = by (k == e.0) refl (p e.1) refl (λ i. least_first p k x es (sorted_tail nat_cmp e.0 (keys_of es) s) i t l.1)
    where
      by : (b : Bool) → (k == e.0) ≡ b → (d : Bool) → p e.1 ≡ d
          → (lookup (is_at (nat_cmp k)) es ≡ Some x → (find p (values_of es) ≡ Some x) × (remove_key p (values_of es) ≡ values_of (remove_entry (is_at (nat_cmp k)) es)))
          → (find p (values_of (e ∷ es)) ≡ Some x) × (remove_key p (values_of (e ∷ es)) ≡ values_of (remove_entry (is_at (nat_cmp k)) (e ∷ es)))
      by true q true r i = (grind (arith, q, r, h), grind (arith, q, r))
      by true q false r i = let y : Some e.1 ≡ Some x = grind (arith, q, h) in let z : p x ≡ false = grind (arith, y, r) in absurd (grind (arith, z, t))
      by false q true r i =
          let j : lookup (is_at (nat_cmp k)) es ≡ Some x = grind (arith, q, h) in
          let a = above_found e.0 k x es (sorted_head nat_cmp e.0 (keys_of es) s) j in
          let c = l.0 r in
          absurd (omega (arith, a, c))
      by false q false r i =
          let j : lookup (is_at (nat_cmp k)) es ≡ Some x = grind (arith, q, h) in
          let m = i j in
          let a = m.0 in
          let c = m.1 in
          (grind (arith, r, a), grind (arith, q, r, c))

  -- none passes
  pub none_first : (p : X → Bool) (es : List (ℕ × X)) → Each (λ e. p e.1 ≡ false) es → (find p (values_of es) ≡ None) × (remove_key p (values_of es) ≡ values_of es)
  none_first p [] h = (refl, refl)
  none_first p (e ∷ es) h = let i = none_first p es h.1 in let a = i.0 in let b = i.1 in let q = h.0 in (grind (arith, a, q), grind (arith, b, q))
