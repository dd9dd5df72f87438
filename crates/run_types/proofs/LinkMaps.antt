-- Maps to lists after a value was appended to one list, or after a list was put under a key.
use Rattle.std.proofs.Common.{◌≡◌, ◌≢◌, refl, sym, ap, ◌∙◌, IsTrue, List, [], ◌∷◌, ◌++◌, Some, None, true, false, not, cond}
use Rattle.std.specs.Option.{unwrap_or}
use Rattle.std.specs.Ordering.{nat_cmp, eq_by_cmp, is_eq, ordering_then}
use Rattle.std.specs.declared.cmp.Ordering.{Ordering}
use Rattle.std.specs.declared.cmp.Ordering.TheVariants.{Less, Equal, Greater}
use Rattle.std.specs.Cmp.{tied_itself, alike_right}
use Rattle.std.specs.FinMap.Entries.{find, put, is_sorted, find-put, find-where_key, is_sorted-put, is_sorted-where_key}
use Rattle.std.specs.FinMap.{nat_cmp-IsAntisymmetric}
use Rattle.run_types.proofs.Tests.{T_true, true_T}
use Rattle.run_types.specs.Tables.{Pair, pair_cmp, list_at, put_list, without}
use Rattle.run_types.specs.LinkTables.{push_list}
use Rattle.run_types.proofs.Maps.{untied, pair_total}

pub tied_pair : (p : Pair) → eq_by_cmp pair_cmp p p ≡ true
tied_pair p = ap is_eq (tied_itself pair_total p)

pub untied_pair : (j k : Pair) → j ≢ k → eq_by_cmp pair_cmp j k ≡ false
untied_pair j k n = by (nat_cmp j.0 k.0) refl
  where
    by : (a : Ordering) → nat_cmp j.0 k.0 ≡ a → is_eq (ordering_then (nat_cmp j.0 k.0) (nat_cmp j.1 k.1)) ≡ false
    by Less i = rw i refl
    by Greater i = rw i refl
    by Equal i = let e = nat_cmp-IsAntisymmetric j.0 k.0 i in rw i (untied j.1 k.1 (λ f. n (λ z. (e z, f z))))

module _ {X : Type 0} (es : List (Pair × List X)) where
  put_here : (k : Pair) (xs : List X) → list_at pair_cmp k (put pair_cmp k xs es) ≡ xs
  put_here k xs = ap (λ z. unwrap_or z []) (find-put pair_cmp pair_total k k xs es ∙ ap (λ b. cond b (Some xs) (find pair_cmp k es)) (tied_pair k))

  put_there : (j k : Pair) (xs : List X) → j ≢ k → list_at pair_cmp j (put pair_cmp k xs es) ≡ list_at pair_cmp j es
  put_there j k xs n = ap (λ z. unwrap_or z []) (find-put pair_cmp pair_total j k xs es ∙ ap (λ b. cond b (Some xs) (find pair_cmp j es)) (untied_pair j k n))

  pub pushed_here : (k : Pair) (x : X) → list_at pair_cmp k (push_list pair_cmp k x es) ≡ list_at pair_cmp k es ++ x ∷ []
  pushed_here k x = put_here k _

  pub pushed_there : (j k : Pair) (x : X) → j ≢ k → list_at pair_cmp j (push_list pair_cmp k x es) ≡ list_at pair_cmp j es
  pushed_there j k x n = put_there j k _ n

  pub pushed_sorted : (k : Pair) (x : X) → IsTrue (is_sorted pair_cmp es) → IsTrue (is_sorted pair_cmp (push_list pair_cmp k x es))
  pushed_sorted k x h = T_true _ (is_sorted-put pair_cmp pair_total k _ es (true_T _ h))

  without_is : (j k : Pair) → find pair_cmp j (without pair_cmp k es) ≡ cond (not (eq_by_cmp pair_cmp k j)) (find pair_cmp j es) None
  without_is j k = find-where_key pair_cmp (λ x. not (eq_by_cmp pair_cmp k x)) j (λ x e. ap (λ r. not (is_eq r)) (sym (alike_right pair_total j x k e))) es

  pub listed_here : (k : Pair) (xs : List X) → list_at pair_cmp k (put_list pair_cmp k xs es) ≡ xs
  listed_here k [] = ap (λ z. unwrap_or z []) (without_is k k ∙ ap (λ b. cond (not b) (find pair_cmp k es) None) (tied_pair k))
  listed_here k (x ∷ xs) = put_here k (x ∷ xs)

  pub listed_there : (j k : Pair) (xs : List X) → j ≢ k → list_at pair_cmp j (put_list pair_cmp k xs es) ≡ list_at pair_cmp j es
  listed_there j k [] n =
      ap (λ z. unwrap_or z []) (without_is j k ∙ ap (λ b. cond (not b) (find pair_cmp j es) None) (untied_pair k j (λ e. n (sym e))))
  listed_there j k (x ∷ xs) n = put_there j k (x ∷ xs) n

  pub listed_sorted : (k : Pair) (xs : List X) → IsTrue (is_sorted pair_cmp es) → IsTrue (is_sorted pair_cmp (put_list pair_cmp k xs es))
  listed_sorted k [] h = T_true _ (is_sorted-where_key pair_cmp (λ x. not (eq_by_cmp pair_cmp k x)) es (true_T _ h))
  listed_sorted k (x ∷ xs) h = T_true _ (is_sorted-put pair_cmp pair_total k (x ∷ xs) es (true_T _ h))

-- pairs that tie are one
pub one_pair : (j k : Pair) → pair_cmp j k ≡ Equal → j ≡ k
one_pair j k e = by (nat_cmp j.0 k.0) refl
  where
    by : (r : Ordering) → nat_cmp j.0 k.0 ≡ r → j ≡ k
    by Less i = absurd (let z : Less ≡ Equal = rw i at e in cc)
    by Greater i = absurd (let z : Greater ≡ Equal = rw i at e in cc)
    by Equal i =
        let s : j.0 ≡ k.0 = nat_cmp-IsAntisymmetric j.0 k.0 i in
        let t : j.1 ≡ k.1 = nat_cmp-IsAntisymmetric j.1 k.1 (rw i at e) in
        λ q. (s q, t q)
