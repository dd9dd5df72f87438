-- The messages of a pair.
use Rattle.std.proofs.Common.{◌≡◌, refl, ap, ap₂, sym, ◌∙◌, List, [], ◌∷◌, ◌++◌, map, Some, None, Bool, true, false, arith}
use Rattle.std.specs.Option.{option_map, unwrap_or}
use Rattle.std.specs.Ordering.{nat_cmp, eq_by_cmp, ordering_then, ordering_reverse}
use Rattle.std.specs.FinMap.{find, put, nat_cmp-IsAntisymmetric}
use Rattle.std.specs.Map.{lookup, set_value, remove_entry, keys_of}
use Rattle.std.specs.BTreeMap.{is_at, insert_entry}
use Rattle.std.specs.declared.cmp.Ordering.{Ordering}
use Rattle.std.specs.declared.cmp.Ordering.TheVariants.{Less, Equal, Greater}
use Rattle.std.specs.Cmp.{IsTotalOrder, nat_cmp_total}
use Rattle.std.specs.List.Sorted.{IsStrictlySortedBy}
use Rattle.std.specs.List.{AllByRecursion}
use Rattle.std.proofs.lemmas.Map.{lookup-none}
use Rattle.std.proofs.lemmas.Map.Entries.{none_below_head}
use Rattle.run_types.specs.Tables.{without, put_list, Pair, pair_cmp, list_at}

pub pairs_lookup : {X Y : Type 0} (f : X → Y) (k : Pair) (es : List (Pair × X)) → find pair_cmp k (map (λ e. (e.0, f e.1)) es) ≡ option_map f (lookup (is_at (pair_cmp k)) es)
pairs_lookup f k [] = refl
pairs_lookup {X = X} {Y = Y} f k (e ∷ es) = by (eq_by_cmp pair_cmp k e.0) refl (pairs_lookup f k es)
  where
    by : (b : Bool) → eq_by_cmp pair_cmp k e.0 ≡ b → find pair_cmp k (map (λ (p : Pair × X). (p.0, f p.1)) es) ≡ option_map f (lookup (is_at (pair_cmp k)) es)
        → find pair_cmp k (map (λ (p : Pair × X). (p.0, f p.1)) (e ∷ es)) ≡ option_map f (lookup (is_at (pair_cmp k)) (e ∷ es))
    by true h i = rw h refl
    by false h i = rw h i

-- the list of a pair, from the code's map
pub list_found : {X Y : Type 0} (f : X → List Y) (k : Pair) (es : List (Pair × X)) (x : X) → lookup (is_at (pair_cmp k)) es ≡ Some x → list_at pair_cmp k (map (λ e. (e.0, f e.1)) es) ≡ f x
list_found f k es x h = ap (λ o. unwrap_or o []) (pairs_lookup f k es ∙ ap (option_map f) h)

pub list_missing : {X Y : Type 0} (f : X → List Y) (k : Pair) (es : List (Pair × X)) → lookup (is_at (pair_cmp k)) es ≡ None → list_at pair_cmp k (map (λ e. (e.0, f e.1)) es) ≡ []
list_missing f k es h = ap (λ o. unwrap_or o []) (pairs_lookup f k es ∙ ap (option_map f) h)

-- the order of pairs is total
then_reverse : (r s : Ordering) → ordering_reverse (ordering_then r s) ≡ ordering_then (ordering_reverse r) (ordering_reverse s)
then_reverse Less s = refl
then_reverse Equal s = refl
then_reverse Greater s = refl

then_equal : (r s : Ordering) → ordering_then r s ≡ Equal → (r ≡ Equal) × (s ≡ Equal)
then_equal Less s h = absurd (grind arith)
then_equal Equal s h = (refl, h)
then_equal Greater s h = absurd (grind arith)

pair_same : (x y : Pair) → pair_cmp x y ≡ Equal → (x.0 ≡ y.0) × (x.1 ≡ y.1)
pair_same x y h = let e = then_equal (nat_cmp x.0 y.0) (nat_cmp x.1 y.1) h in (nat_cmp-IsAntisymmetric x.0 y.0 e.0, nat_cmp-IsAntisymmetric x.1 y.1 e.1)

pair_trans : (x y z : Pair) → pair_cmp x y ≡ Less → pair_cmp y z ≡ Less → pair_cmp x z ≡ Less
pair_trans x y z h k = by (nat_cmp x.0 y.0) refl (nat_cmp y.0 z.0) refl
  where
    by : (r : Ordering) → nat_cmp x.0 y.0 ≡ r → (s : Ordering) → nat_cmp y.0 z.0 ≡ s → pair_cmp x z ≡ Less
    by Less p Less q = let t = nat_cmp_total.trans x.0 y.0 z.0 p q in rw t refl
    by Less p Equal q = let e = nat_cmp-IsAntisymmetric y.0 z.0 q in let t : nat_cmp x.0 z.0 ≡ Less = ap (nat_cmp x.0) (sym e) ∙ p in rw t refl
    by Less p Greater q = let j : Greater ≡ Less = rw q at k in absurd (grind arith)
    by Equal p Less q = let e = nat_cmp-IsAntisymmetric x.0 y.0 p in let t : nat_cmp x.0 z.0 ≡ Less = ap (λ w. nat_cmp w z.0) e ∙ q in rw t refl
    by Equal p Equal q =
        let a : nat_cmp x.1 y.1 ≡ Less = rw p at h in
        let b : nat_cmp y.1 z.1 ≡ Less = rw q at k in
        let e = nat_cmp-IsAntisymmetric x.0 y.0 p in
        let t : nat_cmp x.0 z.0 ≡ Equal = ap (λ w. nat_cmp w z.0) e ∙ q in
        rw t (nat_cmp_total.trans x.1 y.1 z.1 a b)
    by Equal p Greater q = let j : Greater ≡ Less = rw q at k in absurd (grind arith)
    by Greater p s q = let j : Greater ≡ Less = rw p at h in absurd (grind arith)

pub pair_is : (x y : Pair) → pair_cmp x y ≡ Equal → x ≡ y
pair_is (a, b) (c, d) h = let e = pair_same (a, b) (c, d) h in ap₂ (λ m n. (m, n)) e.0 e.1

pub pair_total : IsTotalOrder pair_cmp
pair_total = record {
  antisymm = λ x y. ap₂ ordering_then (nat_cmp_total.antisymm x.0 y.0) (nat_cmp_total.antisymm x.1 y.1) ∙ sym (then_reverse (nat_cmp y.0 x.0) (nat_cmp y.1 x.1));
  trans = pair_trans;
  congr = λ x y z h. let e = pair_same x y h in ap₂ ordering_then (ap (λ w. nat_cmp w z.0) e.0) (ap (λ w. nat_cmp w z.1) e.1);
}

-- changes of the code's map
sorted_rest : {X : Type 0} (e : Pair × X) (es : List (Pair × X)) → IsStrictlySortedBy pair_cmp (keys_of (e ∷ es)) → IsStrictlySortedBy pair_cmp (keys_of es)
unfolding IsStrictlySortedBy
sorted_rest e es s = s.1

pub pairs_insert : {X Y : Type 0} (f : X → Y) (k : Pair) (x : X) (es : List (Pair × X)) → map (λ e. (e.0, f e.1)) (insert_entry pair_cmp es k x) ≡ put pair_cmp k (f x) (map (λ e. (e.0, f e.1)) es)
pairs_insert f k x [] = refl
pairs_insert {X = X} f k x (e ∷ es) = by (pair_cmp k e.0) refl (pairs_insert f k x es)
  where
    by : (r : Ordering) → pair_cmp k e.0 ≡ r → map (λ (p : Pair × X). (p.0, f p.1)) (insert_entry pair_cmp es k x) ≡ put pair_cmp k (f x) (map (λ (p : Pair × X). (p.0, f p.1)) es)
        → map (λ (p : Pair × X). (p.0, f p.1)) (insert_entry pair_cmp (e ∷ es) k x) ≡ put pair_cmp k (f x) (map (λ (p : Pair × X). (p.0, f p.1)) (e ∷ es))
    by Less h i = rw h refl
    by Equal h i = rw h refl
    by Greater h i = rw h (ap (λ l. (e.0, f e.1) ∷ l) i)

pub pairs_set : {X Y : Type 0} (f : X → Y) (k : Pair) (x u : X) (es : List (Pair × X)) → IsStrictlySortedBy pair_cmp (keys_of es) → lookup (is_at (pair_cmp k)) es ≡ Some x
    → map (λ e. (e.0, f e.1)) (set_value (is_at (pair_cmp k)) es u) ≡ put pair_cmp k (f u) (map (λ e. (e.0, f e.1)) es)
pairs_set f k x u [] s h = absurd (grind arith)
pairs_set {X = X} f k x u (e ∷ es) s h = by (pair_cmp k e.0) refl (pairs_set f k x u es (sorted_rest e es s))
  where
    by : (r : Ordering) → pair_cmp k e.0 ≡ r → (lookup (is_at (pair_cmp k)) es ≡ Some x → map (λ (p : Pair × X). (p.0, f p.1)) (set_value (is_at (pair_cmp k)) es u) ≡ put pair_cmp k (f u) (map (λ (p : Pair × X). (p.0, f p.1)) es))
        → map (λ (p : Pair × X). (p.0, f p.1)) (set_value (is_at (pair_cmp k)) (e ∷ es) u) ≡ put pair_cmp k (f u) (map (λ (p : Pair × X). (p.0, f p.1)) (e ∷ es))
    by Less j i = let n = lookup-none (is_at (pair_cmp k)) (e ∷ es) (none_below_head pair_total k e es s j) in absurd (grind (arith, n))
    by Equal j i = rw j refl
    by Greater j i = rw j (ap (λ l. (e.0, f e.1) ∷ l) (i (rw j at h)))

-- a message more makes no list empty
pub put_last : {X : Type 0} (k : Pair) (ms : List X) (m : X) (es : List (Pair × List X)) → put_list pair_cmp k (ms ++ m ∷ []) es ≡ put pair_cmp k (ms ++ m ∷ []) es
put_last k [] m es = refl
put_last k (n ∷ ms) m es = refl

sorted_first : {X : Type 0} (e : Pair × X) (es : List (Pair × X)) → IsStrictlySortedBy pair_cmp (keys_of (e ∷ es)) → AllByRecursion (λ y. pair_cmp e.0 y ≡ Less) (keys_of es)
unfolding IsStrictlySortedBy
sorted_first e es s = s.0

none_later : {X : Type 0} (k l : Pair) (es : List (Pair × X)) → pair_cmp k l ≡ Equal → AllByRecursion (λ y. pair_cmp l y ≡ Less) (keys_of es) → lookup (is_at (pair_cmp k)) es ≡ None
none_later k l [] h a = refl
none_later k l (e ∷ es) h a = let c : pair_cmp k e.0 ≡ Less = pair_total.congr k l e.0 h ∙ a.0 in rw c (none_later k l es h a.1)

pub none_without : {X Y : Type 0} (f : X → Y) (k : Pair) (es : List (Pair × X)) → lookup (is_at (pair_cmp k)) es ≡ None → without pair_cmp k (map (λ e. (e.0, f e.1)) es) ≡ map (λ e. (e.0, f e.1)) es
none_without f k [] h = refl
none_without {X = X} f k (e ∷ es) h = by (eq_by_cmp pair_cmp k e.0) refl (none_without f k es)
  where
    by : (b : Bool) → eq_by_cmp pair_cmp k e.0 ≡ b → (lookup (is_at (pair_cmp k)) es ≡ None → without pair_cmp k (map (λ (p : Pair × X). (p.0, f p.1)) es) ≡ map (λ (p : Pair × X). (p.0, f p.1)) es)
        → without pair_cmp k (map (λ (p : Pair × X). (p.0, f p.1)) (e ∷ es)) ≡ map (λ (p : Pair × X). (p.0, f p.1)) (e ∷ es)
    by true j i = let g = rw j at h in absurd (grind arith)
    by false j i = rw j (ap (λ l. (e.0, f e.1) ∷ l) (i (rw j at h)))

pub pairs_removed : {X Y : Type 0} (f : X → Y) (k : Pair) (x u : X) (es : List (Pair × X)) → IsStrictlySortedBy pair_cmp (keys_of es) → lookup (is_at (pair_cmp k)) es ≡ Some x
    → map (λ e. (e.0, f e.1)) (remove_entry (is_at (pair_cmp k)) (set_value (is_at (pair_cmp k)) es u)) ≡ without pair_cmp k (map (λ e. (e.0, f e.1)) es)
pairs_removed f k x u [] s h = absurd (grind arith)
pairs_removed {X = X} f k x u (e ∷ es) s h = by (pair_cmp k e.0) refl (pairs_removed f k x u es (sorted_rest e es s))
  where
    by : (r : Ordering) → pair_cmp k e.0 ≡ r → (lookup (is_at (pair_cmp k)) es ≡ Some x → map (λ (p : Pair × X). (p.0, f p.1)) (remove_entry (is_at (pair_cmp k)) (set_value (is_at (pair_cmp k)) es u)) ≡ without pair_cmp k (map (λ (p : Pair × X). (p.0, f p.1)) es))
        → map (λ (p : Pair × X). (p.0, f p.1)) (remove_entry (is_at (pair_cmp k)) (set_value (is_at (pair_cmp k)) (e ∷ es) u)) ≡ without pair_cmp k (map (λ (p : Pair × X). (p.0, f p.1)) (e ∷ es))
    by Less j i = rw (j, j) (ap (λ l. (e.0, f e.1) ∷ l) (i (rw j at h)))
    by Equal j i = rw (j, j) (sym (none_without f k es (none_later k e.0 es j (sorted_first e es s))))
    by Greater j i = rw (j, j) (ap (λ l. (e.0, f e.1) ∷ l) (i (rw j at h)))
