-- A sorted map stays sorted if its values change, or if an entry with a greater key is added.
use Rattle.std.proofs.Common.{◌≡◌, refl, ap, ◌∙◌, List, [], ◌∷◌, ◌++◌, map, IsTrue, arith}
use Rattle.std.specs.declared.cmp.Ordering.{Ordering}
use Rattle.std.specs.declared.cmp.Ordering.TheVariants.{Less, Equal, Greater}
use Rattle.std.specs.Ordering.{is_lt, ordering_reverse}
use Rattle.std.specs.Cmp.{IsTotalOrder}
use Rattle.std.specs.Map.{keys_of}
use Rattle.std.specs.BTreeMap.{insert_entry}
use Rattle.std.specs.FinMap.Entries.{is_sorted, below_all}
use Rattle.std.specs.List.{AllByRecursion}
use Rattle.std.specs.List.Sorted.{IsStrictlySortedBy}
use Rattle.run_types.proofs.Laws.{first, second, both}

module _ {K X Y : Type 0} (cmp : K → K → Ordering) (f : X → Y) where
  below : (k : K) (es : List (K × X)) → AllByRecursion (λ y. cmp k y ≡ Less) (keys_of es) → IsTrue (below_all cmp k (map (λ (e : K × X). (e.0, f e.1)) es))
  below k [] h = refl
  below k (e ∷ es) h = both (is_lt (cmp k e.0)) (below_all cmp k (map (λ (x : K × X). (x.0, f x.1)) es)) (ap is_lt h.0) (below k es h.1)

  -- the values do not matter
  pub in_order : (es : List (K × X)) → IsStrictlySortedBy cmp (keys_of es) → IsTrue (is_sorted cmp (map (λ (e : K × X). (e.0, f e.1)) es))
  unfolding IsStrictlySortedBy
  in_order [] h = refl
  in_order (e ∷ es) h = both (below_all cmp e.0 (map (λ (x : K × X). (x.0, f x.1)) es)) (is_sorted cmp (map (λ (x : K × X). (x.0, f x.1)) es)) (below e.0 es h.0) (in_order es h.1)

  -- an insertion, and then the change
  pub inserted : (k : K) (v : X) (es : List (K × X)) → map (λ (e : K × X). (e.0, f e.1)) (insert_entry cmp es k v) ≡ insert_entry cmp (map (λ (e : K × X). (e.0, f e.1)) es) k (f v)
  inserted k v [] = refl
  inserted k v (e ∷ es) = by (cmp k e.0) refl (inserted k v es)
    where
      by : (r : Ordering) → cmp k e.0 ≡ r → map (λ (x : K × X). (x.0, f x.1)) (insert_entry cmp es k v) ≡ insert_entry cmp (map (λ (x : K × X). (x.0, f x.1)) es) k (f v)
          → map (λ (x : K × X). (x.0, f x.1)) (insert_entry cmp (e ∷ es) k v) ≡ insert_entry cmp (map (λ (x : K × X). (x.0, f x.1)) (e ∷ es)) k (f v)
      by Less h i = rw h refl
      by Equal h i = rw h refl
      by Greater h i = rw h (ap (λ l. (e.0, f e.1) ∷ l) i)

less : (o : Ordering) → IsTrue (is_lt o) → o ≡ Less
less Less h = refl
less Equal h = absurd (grind (arith, h))
less Greater h = absurd (grind (arith, h))

module _ {K X : Type 0} (cmp : K → K → Ordering) (total : IsTotalOrder cmp) where
  above : (k : K) (v : X) (b : K) (es rest : List (K × X)) → IsTrue (below_all cmp b (es ++ (k, v) ∷ rest)) → cmp b k ≡ Less
  above k v b [] rest h = less (cmp b k) (first (is_lt (cmp b k)) (below_all cmp b rest) h)
  above k v b (e ∷ es) rest h = above k v b es rest (second (is_lt (cmp b e.0)) (below_all cmp b (es ++ (k, v) ∷ rest)) h)

  -- behind all keys
  pub inserted_last : (k : K) (v : X) (es rest : List (K × X)) → IsTrue (is_sorted cmp (es ++ (k, v) ∷ rest)) → insert_entry cmp es k v ≡ es ++ (k, v) ∷ []
  inserted_last k v [] rest h = refl
  inserted_last k v (e ∷ es) rest h =
      let b = first (below_all cmp e.0 (es ++ (k, v) ∷ rest)) (is_sorted cmp (es ++ (k, v) ∷ rest)) h in
      let s = second (below_all cmp e.0 (es ++ (k, v) ∷ rest)) (is_sorted cmp (es ++ (k, v) ∷ rest)) h in
      let g : cmp k e.0 ≡ Greater = total.antisymm k e.0 ∙ ap ordering_reverse (above k v e.0 es rest b) in
      rw g (ap (λ l. e ∷ l) (inserted_last k v es rest s))
