-- Operands that are popped one by one.
use Rattle.std.proofs.Common.{◌≡◌, refl, sym, ap, ◌∙◌, ℕ, zero, suc, ◌+◌, ◌-◌, ◌<◌, ◌≤◌, ◌⊎◌, inl, inr, List, [], ◌∷◌, drop, Option, Some, None, arith}
use Rattle.std.specs.Prelude.{option_map, replicate, slice_get}
use Rattle.run_types.specs.Partial.{◌>>=◌}
use Rattle.run_types.specs.declared.types.Kind.{Kind}
use Rattle.run_types.specs.declared.types.Kind.TheVariants as K
use Rattle.run_types.specs.Sorts.{BoolSort, Sort}
use Rattle.run_types.proofs.Laws.{same_some}
use Rattle.code_typing.specs.Sorts.{Stack, kind_sort, pop_any, pop_arguments, pop_fitting}
use Rattle.code_typing.specs.declared.cell.Stacks.{Stacks}
use Rattle.code_typing.specs.declared.sort.Sort.{Sort as ASort}
use Rattle.code_typing.specs.Chained.{sort_tree}
use Rattle.code_typing.specs.StackEffects.{stack_at, stack_of}

-- one argument more
pub one_argument : (ks : List Kind) (i : ℕ) (k : Kind) (ss rest : Stack) → drop i ks ≡ k ∷ drop (suc i) ks → pop_arguments (drop (suc i) ks) ss ≡ Some rest
    → pop_arguments (drop i ks) ss ≡ pop_fitting (kind_sort k) rest
one_argument ks i k ss rest e h = ap (λ l. pop_arguments l ss) e ∙ ap (λ o. o >>= λ r. pop_fitting (kind_sort k) r) h

-- where the last arguments cannot be popped, no more can
pub none_behind : (ks : List Kind) (i : ℕ) (ss : Stack) → pop_arguments (drop i ks) ss ≡ None → pop_arguments ks ss ≡ None
none_behind ks zero ss h = h
none_behind [] (suc i) ss h = h
none_behind (k ∷ ks) (suc i) ss h = ap (λ o. o >>= λ r. pop_fitting (kind_sort k) r) (none_behind ks i ss h)

-- one guard more
pub one_guard : (n : ℕ) (ss rest : Stack) → pop_arguments (replicate n K.Bool) ss ≡ Some rest → pop_arguments (replicate (suc n) K.Bool) ss ≡ pop_fitting BoolSort rest
one_guard n ss rest h = ap (λ o. o >>= λ r. pop_fitting BoolSort r) h

pub no_more_guards : (m n : ℕ) (ss : Stack) → n ≤ m → pop_arguments (replicate n K.Bool) ss ≡ None → pop_arguments (replicate m K.Bool) ss ≡ None
no_more_guards zero n ss le h = ap (λ k. pop_arguments (replicate k K.Bool) ss) (let z : 0 ≡ n = omega (arith, le) in z) ∙ h
no_more_guards (suc m) n ss le h = by (last m n le) (λ e. no_more_guards m n ss e h)
  where
    last : (m n : ℕ) → n ≤ suc m → (n ≡ suc m) ⊎ (n ≤ m)
    last m zero le = inr (omega arith)
    last zero (suc zero) le = inl refl
    last zero (suc (suc n)) le = absurd (omega (arith, le))
    last (suc m) (suc n) le = elim (last m n (omega (arith, le))) as (λ u. (suc n ≡ suc (suc m)) ⊎ (suc n ≤ suc m)) [ inl e ↦ inl (ap suc e) | inr e ↦ inr (omega (arith, e)) ]

    by : (n ≡ suc m) ⊎ (n ≤ m) → (n ≤ m → pop_arguments (replicate m K.Bool) ss ≡ None) → pop_arguments (replicate (suc m) K.Bool) ss ≡ None
    by (inl e) more = ap (λ k. pop_arguments (replicate k K.Bool) ss) (sym e) ∙ h
    by (inr e) more = ap (λ o. o >>= λ r. pop_fitting BoolSort r) (more e)

module _ (s : Stacks) where
  -- what could not be popped
  pub arguments_end : (ks : List Kind) (i : ℕ) (k : Kind) (ss : Stack) (rest : ℕ) (need : Sort) (r out : Option ℕ) → drop i ks ≡ k ∷ drop (suc i) ks
      → pop_arguments (drop (suc i) ks) ss ≡ Some (stack_of s rest) → need ≡ kind_sort k → stack_at s r ≡ pop_fitting need (stack_of s rest) → r ≡ None → out ≡ None → stack_at s out ≡ pop_arguments ks ss
  arguments_end ks i k ss rest need r out e h n p z q =
      ap (stack_at s) q ∙ sym (none_behind ks i ss (one_argument ks i k ss (stack_of s rest) e h ∙ ap (λ t. pop_fitting t (stack_of s rest)) (sym n) ∙ sym p ∙ ap (stack_at s) z))

  pub guards_end : (n m : ℕ) (ss : Stack) (rest : ℕ) (r out : Option ℕ) → n < m → pop_arguments (replicate n K.Bool) ss ≡ Some (stack_of s rest)
      → stack_at s r ≡ pop_fitting BoolSort (stack_of s rest) → r ≡ None → out ≡ None → stack_at s out ≡ pop_arguments (replicate m K.Bool) ss
  guards_end n m ss rest r out lt h p z q =
      ap (stack_at s) q ∙ sym (no_more_guards m (suc n) ss (omega (arith, lt)) (one_guard n ss (stack_of s rest) h ∙ sym p ∙ ap (stack_at s) z))

  pub below_end : (n rest : ℕ) (r : Option ℕ) (out : Option ASort) → stack_at s r ≡ pop_any (stack_of s rest) → r ≡ None → out ≡ None
      → option_map sort_tree out ≡ slice_get (stack_of s rest) n
  below_end n rest r out p z q = ap (option_map sort_tree) q ∙ by (stack_of s rest) (ap (stack_at s) (sym z) ∙ p)
    where
      by : (ss : Stack) → None ≡ pop_any ss → None ≡ slice_get ss n
      by [] e = refl
      by (x ∷ ss) e = absurd (let z : None ≡ Some ss = e in cc)

  pub below_step : (m i rest : ℕ) (n : ℕ) → i < m → Some (stack_of s n) ≡ pop_any (stack_of s rest) → slice_get (stack_of s n) (m - (i + 1)) ≡ slice_get (stack_of s rest) (m - i)
  below_step m i rest n lt p = by (stack_of s rest) p
    where
      by : (ss : Stack) → Some (stack_of s n) ≡ pop_any ss → slice_get (stack_of s n) (m - (i + 1)) ≡ slice_get ss (m - i)
      by [] e = absurd (let z : Some (stack_of s n) ≡ None = e in cc)
      by (x ∷ ss) e =
          ap (λ l. slice_get l (m - (i + 1))) (same_some e) ∙ sym (ap (slice_get (x ∷ ss)) (let z : m - i ≡ suc (m - (i + 1)) = omega (arith, lt) in z))
