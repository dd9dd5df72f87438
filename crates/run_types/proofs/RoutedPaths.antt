-- If and only if no pair of nodes is without a path, each path ends at its goal and visits no node twice.
use Rattle.std.proofs.Common.{◌≡◌, ◌≢◌, ◌⊎◌, inl, inr, refl, sym, ap, subst, ℕ, zero, suc, ◌+◌, ◌*◌, ◌<◌, ◌≤◌, ◌==◌, List, [], ◌∷◌, length, Option, Some, None, Bool, true, false, ◌&&◌, ◌||◌, nat_eq, arith}
use Rattle.std.specs.Option.{unwrap_or}
use Rattle.std.specs.List.{list_any, range_with_len, IsDistinct, AllByRecursion}
use Rattle.std.proofs.lemmas.Map.Steps.{length-le_from_distinct_below}
use Rattle.run_types.specs.declared.types.Placement.{Placement}
use Rattle.run_types.specs.declared.types.Route.{Route}
use Rattle.run_types.specs.Tables.{Pair}
use Rattle.run_types.specs.Paths.{IsLink, is_cut, next, path, route_of, toward, walk, ends_of}
use Rattle.run_types.specs.PathFacts.{Leads, In, Once, Ways}
use Rattle.run_types.specs.Routes.{broken_from, broken_to, has_twice, is_broken, without_route}
use Rattle.run_types.specs.RoutedPlacements.{AreBeside, AreRoutes, IsRouted}
use Rattle.run_types.proofs.Tests.{first, equal, equals}
use Rattle.run_types.proofs.Chains.{same_some}
use Rattle.run_types.proofs.Meshes.{toward_beside}

-- the parts of a test joined by `||`
pub neither_first : (a b : Bool) → (a || b) ≡ false → a ≡ false
neither_first true b h = absurd (cc)
neither_first false b h = refl

pub neither_second : (a b : Bool) → (a || b) ≡ false → b ≡ false
neither_second true b h = absurd (cc)
neither_second false b h = h

pub nor : (a b : Bool) → a ≡ false → b ≡ false → (a || b) ≡ false
nor a b p q = rw (p, q) refl

same : (a b : ℕ) → nat_eq a b ≡ true → a ≡ b
same a b h = grind (arith, h)

apart : (a b : ℕ) → a ≢ b → nat_eq a b ≡ false
apart a b n = by (nat_eq a b) refl
  where
    by : (t : Bool) → nat_eq a b ≡ t → nat_eq a b ≡ false
    by true e = absurd (n (same a b e))
    by false e = e

-- lists without a number twice, and the test
not_any : (n : ℕ) (ns : List ℕ) → (In n ns → ⊥) → list_any (nat_eq n) ns ≡ false
not_any n [] h = refl
not_any n (m ∷ ns) h = nor (nat_eq n m) (list_any (nat_eq n) ns) (apart n m (λ e. h (inl (sym e)))) (not_any n ns (λ i. h (inr i)))

any_not : (n : ℕ) (ns : List ℕ) → list_any (nat_eq n) ns ≡ false → In n ns → ⊥
any_not n [] h i = i
any_not n (m ∷ ns) h (inl e) = absurd (let k = neither_first (nat_eq n m) (list_any (nat_eq n) ns) h in grind (arith, k, e))
any_not n (m ∷ ns) h (inr i) = any_not n ns (neither_second (nat_eq n m) (list_any (nat_eq n) ns) h) i

pub is_once : (ns : List ℕ) → has_twice ns ≡ false → Once ns
is_once [] h = tt
is_once (n ∷ ns) h = (any_not n ns (neither_first (list_any (nat_eq n) ns) (has_twice ns) h), is_once ns (neither_second (list_any (nat_eq n) ns) (has_twice ns) h))

pub not_twice : (ns : List ℕ) → Once ns → has_twice ns ≡ false
not_twice [] h = refl
not_twice (n ∷ ns) h = nor (list_any (nat_eq n) ns) (has_twice ns) (not_any n ns h.0) (not_twice ns h.1)

differs : (n : ℕ) (ns : List ℕ) → list_any (nat_eq n) ns ≡ false → AllByRecursion (λ m. nat_eq n m ≡ false) ns
differs n [] h = tt
differs n (m ∷ ns) h = (neither_first (nat_eq n m) (list_any (nat_eq n) ns) h, differs n ns (neither_second (nat_eq n m) (list_any (nat_eq n) ns) h))

distinct : (ns : List ℕ) → has_twice ns ≡ false → IsDistinct nat_eq ns
unfolding IsDistinct
distinct [] h = tt
distinct (n ∷ ns) h = (differs n ns (neither_first (list_any (nat_eq n) ns) (has_twice ns) h), distinct ns (neither_second (list_any (nat_eq n) ns) (has_twice ns) h))

in_any : (n : ℕ) (ns : List ℕ) → list_any (nat_eq n) ns ≡ true → In n ns
in_any n [] h = absurd (cc)
in_any n (m ∷ ns) h = by (nat_eq n m) refl (in_any n ns)
  where
    by : (t : Bool) → nat_eq n m ≡ t → (list_any (nat_eq n) ns ≡ true → In n ns) → In n (m ∷ ns)
    by true e k = inl (sym (same n m e))
    by false e k = inr (k (rw e at h))

-- where a route leads
module _ (l : Placement) where
  route_beside : (rs : List Route) (a b n : ℕ) → AreRoutes l rs → route_of rs a b ≡ Some n → AreBeside l a n
  route_beside [] a b n all e = absurd (cc)
  route_beside (r ∷ rs) a b n all e = by (r.at == a && r.goal == b) refl (route_beside rs a b n all.4)
    where
      by : (t : Bool) → (r.at == a && r.goal == b) ≡ t → (route_of rs a b ≡ Some n → AreBeside l a n) → AreBeside l a n
      by true i k =
          let to : r.next ≡ n = same_some (rw i at e) in
          subst (λ z. AreBeside l z n) (equal r.at a (first (r.at == a) (r.goal == b) i)) (subst (λ z. AreBeside l r.at z) to all.0)
      by false i k = k (rw i at e)

  -- the next node is beside this one
  pub next_beside : IsRouted l → (a b : ℕ) → a < l.width * l.height → b < l.width * l.height → a ≢ b → AreBeside l a (next l a b)
  next_beside r a b i j n = by (route_of l.routes a b) refl
    where
      by : (o : Option ℕ) → route_of l.routes a b ≡ o → AreBeside l a (unwrap_or (route_of l.routes a b) (toward l.width a b))
      by None e = rw e (toward_beside l a b (omega (arith, r.width.0)) i j n)
      by (Some k) e = rw e (route_beside l.routes a b k r.routes e)

-- a walk of so many steps ends at its goal, or has that many links
pub leads_or_long : (step : ℕ → ℕ → ℕ) (b n a : ℕ) → Leads step b a (walk step n a b) ⊎ (length (walk step n a b) ≡ n)
leads_or_long step b zero a = inr refl
leads_or_long step b (suc n) a = by (a == b) refl (leads_or_long step b n (step a b))
  where
    by : (t : Bool) → (a == b) ≡ t → Leads step b (step a b) (walk step n (step a b) b) ⊎ (length (walk step n (step a b) b) ≡ n)
        → Leads step b a (walk step (suc n) a b) ⊎ (length (walk step (suc n) a b) ≡ suc n)
    by true e k = inl (rw e (equal a b e))
    by false e (inl k) = inl (rw e ((λ s. absurd (let q : (a == b) ≡ true = rw s (equals b) in grind (arith, e, q))), refl, refl, k))
    by false e (inr k) = inr (rw e (ap suc k))

length_ends : (ks : List Pair) → length (ends_of ks) ≡ length ks
length_ends [] = refl
length_ends (k ∷ ks) = ap suc (length_ends ks)

-- the nodes of a walk are of the mesh, if each step is
walk_inside : (step : ℕ → ℕ → ℕ) (size b : ℕ) → ((a : ℕ) → a < size → a ≢ b → step a b < size) → (n a m : ℕ) → a < size → In m (a ∷ ends_of (walk step n a b)) → m < size
walk_inside step size b inside n a m i (inl e) = subst (λ z. z < size) e i
walk_inside step size b inside zero a m i (inr h) = absurd h
walk_inside step size b inside (suc n) a m i (inr h) = by (a == b) refl (λ z. walk_inside step size b inside n (step a b) m z)
  where
    by : (t : Bool) → (a == b) ≡ t → (step a b < size → In m (step a b ∷ ends_of (walk step n (step a b) b)) → m < size) → m < size
    by true e k = absurd (rw e at h)
    by false e k = k (inside a i (λ s. absurd (let q : (a == b) ≡ true = rw s (equals b) in grind (arith, e, q)))) (rw e at h)

-- no pair without route: each pair of these has one
no_route_to : (l : Placement) (a : ℕ) (bs : List ℕ) (b : ℕ) → broken_to l a bs ≡ None → In b bs → is_broken l a b ≡ false
no_route_to l a [] b h i = absurd i
no_route_to l a (x ∷ bs) b h i = by (is_broken l a x) refl i (no_route_to l a bs b)
  where
    by : (t : Bool) → is_broken l a x ≡ t → (x ≡ b) ⊎ In b bs → (broken_to l a bs ≡ None → In b bs → is_broken l a b ≡ false) → is_broken l a b ≡ false
    by true e i k = absurd (let s = rw e at h in cc)
    by false e (inl s) k = subst (λ z. is_broken l a z ≡ false) s e
    by false e (inr j) k = k (rw e at h) j

no_route_from : (l : Placement) (cs bs : List ℕ) (a b : ℕ) → broken_from l cs bs ≡ None → In a cs → In b bs → is_broken l a b ≡ false
no_route_from l [] bs a b h i j = absurd i
no_route_from l (x ∷ rest) bs a b h i j = by (broken_to l x bs) refl i (no_route_from l rest bs a b)
  where
    by : (o : Option Pair) → broken_to l x bs ≡ o → (x ≡ a) ⊎ In a rest → (broken_from l rest bs ≡ None → In a rest → In b bs → is_broken l a b ≡ false)
        → is_broken l a b ≡ false
    by (Some k) e i later = absurd (let s = rw e at h in cc)
    by None e (inl s) later = no_route_to l a bs b (subst (λ z. broken_to l z bs ≡ None) s e) j
    by None e (inr k) later = later (rw e at h) k j

in_range : (from n m : ℕ) → from ≤ m → m < from + n → In m (range_with_len from n)
in_range from zero m p q = absurd (omega (arith, p, q))
in_range from (suc n) m p q = by (nat_eq from m) refl (in_range (from + 1) n m)
  where
    by : (t : Bool) → nat_eq from m ≡ t → (from + 1 ≤ m → m < from + 1 + n → In m (range_with_len (from + 1) n)) → In m (from ∷ range_with_len (from + 1) n)
    by true e k = inl (same from m e)
    by false e k = inr (k (let d : from ≢ m = (λ s. absurd (grind (arith, e, s))) in omega (arith, p, d)) (omega (arith, q)))

routed_pair : (l : Placement) → without_route l ≡ None → (a b : ℕ) → a < l.width * l.height → b < l.width * l.height → is_broken l a b ≡ false
routed_pair l h a b i j = no_route_from l (range_with_len 0 (l.width * l.height)) (range_with_len 0 (l.width * l.height)) a b h
    (in_range 0 (l.width * l.height) a (omega arith) (omega (arith, i))) (in_range 0 (l.width * l.height) b (omega arith) (omega (arith, j)))

-- a path of as many links as there are nodes comes to one of them twice
pub too_long : (l : Placement) → IsRouted l → (a b : ℕ) → a < l.width * l.height → b < l.width * l.height → has_twice (a ∷ ends_of (path l a b)) ≡ false
    → length (path l a b) ≡ l.width * l.height → ⊥
too_long l r a b i j once long =
    let few = length-le_from_distinct_below (a ∷ ends_of (path l a b)) (l.width * l.height) (distinct (a ∷ ends_of (path l a b)) once)
    (λ q has. walk_inside (next l) (l.width * l.height) b (λ c k n. (next_beside l r c b k j n).1) (l.width * l.height) a q i (in_any q (a ∷ ends_of (path l a b)) has)) in
    let many = length_ends (path l a b) in
    absurd (omega (arith, few, many, long))

pub routed_ways : (l : Placement) → IsRouted l → without_route l ≡ None → Ways l
routed_ways l r none = record { leads = leads; once = once; link = link }
  where
    twice_not : (a b : ℕ) → a < l.width * l.height → b < l.width * l.height → has_twice (a ∷ ends_of (path l a b)) ≡ false
    twice_not a b i j = neither_second (list_any (λ (k : Pair). is_cut l.cuts k.0 k.1) (path l a b)) (has_twice (a ∷ ends_of (path l a b))) (routed_pair l none a b i j)

    cut_not : (a b : ℕ) → a < l.width * l.height → b < l.width * l.height → list_any (λ (k : Pair). is_cut l.cuts k.0 k.1) (path l a b) ≡ false
    cut_not a b i j = neither_first (list_any (λ (k : Pair). is_cut l.cuts k.0 k.1) (path l a b)) (has_twice (a ∷ ends_of (path l a b))) (routed_pair l none a b i j)

    once : (a b : ℕ) → a < l.width * l.height → b < l.width * l.height → Once (a ∷ ends_of (path l a b))
    once a b i j = is_once (a ∷ ends_of (path l a b)) (twice_not a b i j)

    leads : (a b : ℕ) → a < l.width * l.height → b < l.width * l.height → Leads (next l) b a (path l a b)
    leads a b i j = by (leads_or_long (next l) b (l.width * l.height) a)
      where
        by : Leads (next l) b a (path l a b) ⊎ (length (path l a b) ≡ l.width * l.height) → Leads (next l) b a (path l a b)
        by (inl h) = h
        by (inr h) = absurd (too_long l r a b i j (twice_not a b i j) h)

    link : (a b : ℕ) → a < l.width * l.height → b < l.width * l.height → a ≢ b → IsLink l (a, next l a b)
    link a b i j n =
        let t = next_beside l r a b i j n in
        record { from = i; to = t.1; beside = t.2; there = by (path l a b) refl (leads a b i j) }
      where
        by : (ks : List Pair) → path l a b ≡ ks → Leads (next l) b a ks → is_cut l.cuts a (next l a b) ≡ false
        by [] e h = absurd (n h)
        by (k ∷ ks) e h =
            let c = neither_first (is_cut l.cuts k.0 k.1) (list_any (λ (k : Pair). is_cut l.cuts k.0 k.1) ks) (rw e at (cut_not a b i j)) in
            subst (λ z. is_cut l.cuts z (next l a b) ≡ false) h.1 (subst (λ z. is_cut l.cuts k.0 z ≡ false) h.2 c)

-- the converse
pub ways_have_routes : (l : Placement) → Ways l → without_route l ≡ None
ways_have_routes l w = from (range_with_len 0 (l.width * l.height)) (below 0 (l.width * l.height) (l.width * l.height) (omega arith))
  where
    below : (a n size : ℕ) → a + n ≤ size → AllByRecursion (λ n. n < size) (range_with_len a n)
    below a zero size h = tt
    below a (suc n) size h = (omega (arith, h), below (a + 1) n size (omega (arith, h)))

    uncut : (b : ℕ) → b < l.width * l.height → (ks : List Pair) (a : ℕ) → a < l.width * l.height → Leads (next l) b a ks → list_any (λ (k : Pair). is_cut l.cuts k.0 k.1) ks ≡ false
    uncut b j [] a i h = refl
    uncut b j (k ∷ ks) a i h =
        let q = w.link a b i j h.0 in
        nor (is_cut l.cuts k.0 k.1) (list_any (λ (k : Pair). is_cut l.cuts k.0 k.1) ks)
        (subst (λ z. is_cut l.cuts z k.1 ≡ false) (sym h.1) (subst (λ z. is_cut l.cuts a z ≡ false) (sym h.2) q.there))
        (uncut b j ks k.1 (subst (λ z. z < l.width * l.height) (sym h.2) q.to) h.3)

    whole : (a b : ℕ) → a < l.width * l.height → b < l.width * l.height → is_broken l a b ≡ false
    whole a b i j = nor (list_any (λ (k : Pair). is_cut l.cuts k.0 k.1) (path l a b)) (has_twice (a ∷ ends_of (path l a b))) (uncut b j (path l a b) a i (w.leads a b i j))
        (not_twice (a ∷ ends_of (path l a b)) (w.once a b i j))

    to : (a : ℕ) → a < l.width * l.height → (bs : List ℕ) → AllByRecursion (λ n. n < l.width * l.height) bs → broken_to l a bs ≡ None
    to a i [] h = refl
    to a i (b ∷ bs) h = rw (whole a b i h.0) (to a i bs h.1)

    from_all : (cs bs : List ℕ) → AllByRecursion (λ n. n < l.width * l.height) cs → AllByRecursion (λ n. n < l.width * l.height) bs → broken_from l cs bs ≡ None
    from_all [] bs h k = refl
    from_all (a ∷ rest) bs h k = rw (to a h.0 bs k) (from_all rest bs h.1 k)

    from : (ns : List ℕ) → AllByRecursion (λ n. n < l.width * l.height) ns → broken_from l ns ns ≡ None
    from ns h = from_all ns ns h h
