-- Messages by stamps, after a message came or was taken.
use Rattle.std.proofs.Common.{◌≡◌, refl, ap, sym, ◌∙◌, subst, ℕ, ◌<◌, ◌≤◌, ◌+◌, ◌&&◌, Option, Some, None, Bool, true, false, cond, ◌==◌, arith}
use Rattle.std.specs.Ordering.{nat_cmp, is_eq}
use Rattle.std.specs.List.{find}
use Rattle.std.specs.Set.{remove_key}
use Rattle.std.specs.Map.{lookup, remove_entry, values_of}
use Rattle.std.specs.BTreeMap.{BTreeMap, IsOrdered, get, is_at, insert_entry, values}
use Rattle.std.specs.BTreeSet.{BTreeSet, contains}
use Rattle.run_types.specs.Tables.{Pair, pair_cmp, Each}
use Rattle.message_queue.specs.declared.Mail.{Mail}
use Rattle.message_queue.specs.Stamps.{is_for, IsKept, IsLeast, IsLeastFor}
use Rattle.message_queue.proofs.Entries.{none_from, below_last, below_removed, each_entry, least_first, none_first}

same_pair : (m k n j : ℕ) → is_eq (pair_cmp (m, k) (n, j)) ≡ (m == n && k == j)
same_pair m k n j = grind arith

-- a message more
pub kept_more : (m u : BTreeMap ℕ Mail) (s t : BTreeSet Pair) (n : ℕ) (x : Mail) → IsKept m s n
    → ((q : Pair) → contains pair_cmp t q ≡ cond (is_at (pair_cmp (x.method.0, n)) q) true (contains pair_cmp s q))
    → ((q : ℕ) → get nat_cmp u q ≡ cond (is_at (nat_cmp n) q) (Some x) (get nat_cmp m q))
    → u.entries ≡ insert_entry nat_cmp m.entries n x → IsOrdered nat_cmp u → IsKept u t (n + 1)
kept_more m u s t n x h c g e o = record {
  indexed = λ a k. by a k (n == k) refl;
  below = subst (λ es. Each (λ f. f.0 < n + 1) es) (sym e) (below_last n x m.entries h.below);
  ordered = o;
}
  where
    by : (a k : ℕ) → (b : Bool) → (n == k) ≡ b → contains pair_cmp t (a, k) ≡ is_for a (get nat_cmp u k)
    by a k true q =
        let same : n ≡ k = grind (arith, q) in
        let p = same_pair x.method.0 n a k in
        let w : contains pair_cmp s (a, k) ≡ false = h.indexed a k ∙ ap (is_for a) (none_from n k m.entries (omega (arith, same)) h.below) in
        let v : contains pair_cmp t (a, k) ≡ (x.method.0 == a) = c (a, k) ∙ (grind (arith, p, q, w)) in
        let y : get nat_cmp u k ≡ Some x = g k ∙ (grind (arith, q)) in
        v ∙ sym (ap (is_for a) y)
    by a k false q =
        let p = same_pair x.method.0 n a k in
        let v : contains pair_cmp t (a, k) ≡ contains pair_cmp s (a, k) = c (a, k) ∙ (grind (arith, p, q)) in
        let y : get nat_cmp u k ≡ get nat_cmp m k = g k ∙ (grind (arith, q)) in
        v ∙ h.indexed a k ∙ sym (ap (is_for a) y)

-- a place that came and went
pub kept_back : (m u : BTreeMap ℕ Mail) (s t v : BTreeSet Pair) (n a : ℕ) → IsKept m s n
    → ((q : Pair) → contains pair_cmp t q ≡ cond (is_at (pair_cmp (a, n)) q) true (contains pair_cmp s q))
    → ((q : Pair) → contains pair_cmp v q ≡ cond (is_at (pair_cmp (a, n)) q) false (contains pair_cmp t q))
    → u.entries ≡ m.entries → IsOrdered nat_cmp u → IsKept u v n
kept_back m u s t v n a h c d e o = record {
  indexed = λ b k. by b k (n == k) refl ∙ h.indexed b k ∙ ap (λ es. is_for b (lookup (is_at (nat_cmp k)) es)) (sym e);
  below = subst (λ es. Each (λ f. f.0 < n) es) (sym e) h.below;
  ordered = o;
}
  where
    by : (b k : ℕ) → (z : Bool) → (n == k) ≡ z → contains pair_cmp v (b, k) ≡ contains pair_cmp s (b, k)
    by b k true q =
        let same : n ≡ k = grind (arith, q) in
        let w : contains pair_cmp s (b, k) ≡ false = h.indexed b k ∙ ap (is_for b) (none_from n k m.entries (omega (arith, same)) h.below) in
        let f = c (b, k) in let g = d (b, k) in let p = same_pair a n b k in grind (arith, p, q, f, g, w)
    by b k false q = let f = c (b, k) in let g = d (b, k) in let p = same_pair a n b k in grind (arith, p, q, f, g)

-- what is for a method
for_some : (a : ℕ) (r : Option Mail) → is_for a r ≡ true → (x : Mail) × (r ≡ Some x) × (x.method.0 ≡ a)
for_some a None h = absurd (grind (arith, h))
for_some a (Some x) h = (x, refl, grind (arith, h))

-- a message less
pub kept_less : (m u : BTreeMap ℕ Mail) (s t : BTreeSet Pair) (n k a : ℕ) → IsKept m s n → contains pair_cmp s (a, k) ≡ true
    → ((q : Pair) → contains pair_cmp t q ≡ cond (is_at (pair_cmp (a, k)) q) false (contains pair_cmp s q))
    → ((q : ℕ) → get nat_cmp u q ≡ cond (is_at (nat_cmp k) q) None (get nat_cmp m q))
    → u.entries ≡ remove_entry (is_at (nat_cmp k)) m.entries → IsOrdered nat_cmp u → IsKept u t n
kept_less m u s t n k a h i c g e o = record {
  indexed = λ b j. by b j (k == j) refl;
  below = subst (λ es. Each (λ f. f.0 < n) es) (sym e) (below_removed n (is_at (nat_cmp k)) m.entries h.below);
  ordered = o;
}
  where
    by : (b j : ℕ) → (z : Bool) → (k == j) ≡ z → contains pair_cmp t (b, j) ≡ is_for b (get nat_cmp u j)
    by b j true q =
        let same : k ≡ j = grind (arith, q) in
        let x = for_some a (get nat_cmp m k) (sym (h.indexed a k) ∙ i) in
        let w : contains pair_cmp s (b, j) ≡ (x.0.method.0 == b) = h.indexed b j ∙ ap (λ l. is_for b (get nat_cmp m l)) (sym same) ∙ ap (is_for b) x.1 in
        let y : get nat_cmp u j ≡ None = g j ∙ (grind (arith, q)) in
        let f = c (b, j) in let p = same_pair a k b j in let r = x.2 in
        let v : contains pair_cmp t (b, j) ≡ false = grind (arith, p, q, f, w, r) in
        v ∙ sym (ap (is_for b) y)
    by b j false q =
        let p = same_pair a k b j in
        let v : contains pair_cmp t (b, j) ≡ contains pair_cmp s (b, j) = c (b, j) ∙ (grind (arith, p, q)) in
        let y : get nat_cmp u j ≡ get nat_cmp m j = g j ∙ (grind (arith, q)) in
        v ∙ h.indexed b j ∙ sym (ap (is_for b) y)

-- the message of a stamp for a method, and what has it
told : (m : BTreeMap ℕ Mail) (s : BTreeSet Pair) (n j : ℕ) (x : Mail) → IsKept m s n → get nat_cmp m j ≡ Some x → contains pair_cmp s (x.method.0, j) ≡ true
told m s n j x h e = h.indexed x.method.0 j ∙ ap (is_for x.method.0) e ∙ (grind arith)

-- the message of the least stamp is the first for the methods
pub first_kept : (test : ℕ → Bool) (m : BTreeMap ℕ Mail) (s : BTreeSet Pair) (n k : ℕ) → IsKept m s n → IsLeast test s k
    → (x : Mail) × (get nat_cmp m k ≡ Some x) × (find (λ (y : Mail). test y.method.0) (values m) ≡ Some x)
    × (remove_key (λ (y : Mail). test y.method.0) (values m) ≡ values_of (remove_entry (is_at (nat_cmp k)) m.entries))
first_kept test m s n k h l =
    let x = for_some l.method (get nat_cmp m k) (sym (h.indexed l.method k) ∙ l.has) in
    let t : test x.0.method.0 ≡ true = ap test x.2 ∙ l.passes in
    let f = least_first (λ (y : Mail). test y.method.0) k x.0 m.entries h.ordered x.1 t (each_entry (λ j y. test y.method.0 ≡ true → k ≤ j) m.entries h.ordered (λ j y e p. l.least y.method.0 j p (told m s n j y h e))) in
    (x.0, x.1, f.0, f.1)

-- no message is for the methods
pub none_kept : (test : ℕ → Bool) (m : BTreeMap ℕ Mail) (s : BTreeSet Pair) (n : ℕ) → IsKept m s n → IsLeastFor test s None
    → (find (λ (y : Mail). test y.method.0) (values m) ≡ None) × (remove_key (λ (y : Mail). test y.method.0) (values m) ≡ values m)
none_kept test m s n h l = none_first (λ (y : Mail). test y.method.0) m.entries (each_entry (λ j y. test y.method.0 ≡ false) m.entries h.ordered (λ j y e. by j y (told m s n j y h e) (test y.method.0) refl))
  where
    by : (j : ℕ) (y : Mail) → contains pair_cmp s (y.method.0, j) ≡ true → (b : Bool) → test y.method.0 ≡ b → test y.method.0 ≡ false
    by j y c false d = d
    by j y c true d = let e = l y.method.0 j d in absurd (grind (arith, e, c))

pub of_method : (s : BTreeSet Pair) (a k : ℕ) → IsLeast (λ m. m == a) s k → contains pair_cmp s (a, k) ≡ true
of_method s a k l = let p = l.passes in let e : l.method ≡ a = grind (arith, p) in subst (λ m. contains pair_cmp s (m, k) ≡ true) e l.has
