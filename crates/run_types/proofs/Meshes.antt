-- In every mesh without cuts and routes each path ends at its goal and visits no node twice: each step is one nearer.
use Rattle.std.proofs.Common.{◌≡◌, ◌≢◌, ◌⊎◌, inl, inr, refl, sym, ap, subst, ◌∙◌, ℕ, zero, suc, ◌+◌, ◌-◌, ◌*◌, ◌/◌, ◌%◌, ◌<◌, ◌≤◌, ◌==◌, List, [], ◌∷◌, Bool, true, false, nat_lt, arith}
use Rattle.std.specs.Option.{unwrap_or}
use Rattle.std.proofs.lemmas.Nat.{div-add-mod', mod_below, mod-mul-add, div-mul-add, div_below}
use Rattle.run_types.specs.declared.types.Placement.{Placement}
use Rattle.run_types.proofs.Tests.{equal, equals}
use Rattle.run_types.specs.declared.types.Route.{Route}
use Rattle.run_types.specs.Paths.{toward, walk, Adjacent, AreNeighbours, IsLink, is_cut, route_of, ends_of}
use Rattle.run_types.specs.RoutedPlacements.{AreBeside}
use Rattle.run_types.specs.PathFacts.{Leads, In, Once, Ways}

-- how many steps it is from a to b
distance : ℕ → ℕ → ℕ → ℕ
distance w a b = ((a % w - b % w) + (b % w - a % w)) + ((a / w - b / w) + (b / w - a / w))

-- c is one nearer to b than a is, and beside a
record Step (w a b c : ℕ) : Type 0 where
  one_nearer : distance w c b + 1 ≡ distance w a b
  beside : AreNeighbours w a c

-- what goes to this row and column
step : (w a b c q r : ℕ) → c ≡ q * w + r → r < w → ((r - b % w) + (b % w - r)) + ((q - b / w) + (b / w - q)) + 1 ≡ distance w a b
    → ((a / w ≡ q) × Adjacent (a % w) r) ⊎ ((a % w ≡ r) × Adjacent (a / w) q) → Step w a b c
unfolding distance
step w a b c q r e h k j = record { one_nearer = rw (column, row) k; beside = rw (column, row) j }
  where
    column : c % w ≡ r
    column = ap (λ n. n % w) e ∙ mod-mul-add q w r h

    row : c / w ≡ q
    row = ap (λ n. n / w) e ∙ div-mul-add q w r h

one_step : (w a b : ℕ) → 0 < w → a ≢ b → Step w a b (toward w a b)
unfolding distance
one_step w a b p n = by (a % w == b % w) (nat_lt a b) (nat_lt (a % w) (b % w)) refl refl refl
  where
    at : a / w * w + a % w ≡ a
    at = div-add-mod' a w

    bt : b / w * w + b % w ≡ b
    bt = div-add-mod' b w

    ra : a % w < w
    ra = mod_below a w p

    rb : b % w < w
    rb = mod_below b w p

    less : (x y : ℕ) → nat_lt x y ≡ true → x < y
    less x y h = grind (arith, h)

    not_less : (x y : ℕ) → nat_lt x y ≡ false → y ≤ x
    not_less x y h = grind (arith, h)

    -- in one column the rows differ as the nodes do
    below : (x y r : ℕ) → x * w + r < y * w + r → x < y
    below x y r h = by_order (nat_lt x y) refl
      where
        by_order : (t : Bool) → nat_lt x y ≡ t → x < y
        by_order true e = less x y e
        by_order false e = absurd (let k = not_less x y e in let m = times y x k in omega (arith, h, m))
          where
            times : (y x : ℕ) → y ≤ x → y * w ≤ x * w
            times y x k = grind (arith, k)

    by : (t u v : Bool) → (a % w == b % w) ≡ t → nat_lt a b ≡ u → nat_lt (a % w) (b % w) ≡ v → Step w a b (toward w a b)
    by true true v i j k =
        let s = equal (a % w) (b % w) i in
        let rows : a / w < b / w = below (a / w) (b / w) (a % w) (let l = less a b j in omega (arith, at, bt, l, s)) in
        let c : a + w ≡ (a / w + 1) * w + a % w = omega (arith, at) in
        rw (i, j) (step w a b (a + w) (a / w + 1) (a % w) c ra (omega (arith, rows, s)) (inr (refl, inl refl)))
    by true false v i j k =
        let s = equal (a % w) (b % w) i in
        let rows : b / w < a / w = below (b / w) (a / w) (a % w) (let l = not_less a b j in let m : a ≢ b = n in omega (arith, at, bt, l, m, s)) in
        let c : a - w ≡ (a / w - 1) * w + a % w = minus (a / w) rows at in
        rw (i, j) (step w a b (a - w) (a / w - 1) (a % w) c ra (omega (arith, rows, s)) (inr (refl, inr (omega (arith, rows)))))
      where
        minus : (q : ℕ) → b / w < q → q * w + a % w ≡ a → a - w ≡ (q - 1) * w + a % w
        minus zero h e = absurd (omega (arith, h))
        minus (suc q) h e = let z : suc q - 1 ≡ q = omega arith in rw z (omega (arith, e))
    by false u true i j k =
        let l = less (a % w) (b % w) k in
        rw (i, k) (step w a b (a + 1) (a / w) (a % w + 1) (omega (arith, at)) (omega (arith, l, rb)) (omega (arith, l)) (inl (refl, inl refl)))
    by false u false i j k =
        let l = not_less (a % w) (b % w) k in
        let m : a % w ≢ b % w = λ e. absurd (let q : (a % w == b % w) ≡ true = rw e (equals (b % w)) in grind (arith, i, q)) in
        rw (i, k) (step w a b (a - 1) (a / w) (a % w - 1) (omega (arith, at, l, m)) (omega (arith, ra)) (omega (arith, l, m)) (inl (refl, inr (omega (arith, l, m)))))

apart : (a b : ℕ) → (a == b) ≡ false → a ≢ b
apart a b h e = absurd (let q : (a == b) ≡ true = rw e (equals b) in grind (arith, h, q))

module _ (w b : ℕ) (p : 0 < w) where
  none_left : (a : ℕ) → distance w a b ≡ 0 → a ≡ b
  none_left a h = by (a == b) refl
    where
      by : (t : Bool) → (a == b) ≡ t → a ≡ b
      by true e = equal a b e
      by false e = absurd (let q = (one_step w a b p (apart a b e)).one_nearer in omega (arith, q, h))

  comes : (n a : ℕ) → distance w a b ≤ n → Leads (toward w) b a (walk (toward w) n a b)
  comes zero a h = none_left a (omega (arith, h))
  comes (suc n) a h = by (a == b) refl (comes n (toward w a b))
    where
      by : (t : Bool) → (a == b) ≡ t → (distance w (toward w a b) b ≤ n → Leads (toward w) b (toward w a b) (walk (toward w) n (toward w a b) b)) → Leads (toward w) b a (walk (toward w) (suc n) a b)
      by true e k = rw e (equal a b e)
      by false e k = let q = (one_step w a b p (apart a b e)).one_nearer in rw e (apart a b e, refl, refl, k (omega (arith, q, h)))

  -- every later node is nearer
  later : (n a m : ℕ) → In m (ends_of (walk (toward w) n a b)) → distance w m b < distance w a b
  later zero a m h = absurd h
  later (suc n) a m h = by (a == b) refl (later n (toward w a b) m)
    where
      by : (t : Bool) → (a == b) ≡ t → (In m (ends_of (walk (toward w) n (toward w a b) b)) → distance w m b < distance w (toward w a b) b) → distance w m b < distance w a b
      by true e k = absurd (rw e at h)
      by false e k = on (rw e at h)
        where
          on : (toward w a b ≡ m) ⊎ In m (ends_of (walk (toward w) n (toward w a b) b)) → distance w m b < distance w a b
          on (inl s) = let q = (one_step w a b p (apart a b e)).one_nearer in subst (λ z. distance w z b < distance w a b) s (omega (arith, q))
          on (inr i) = let q = (one_step w a b p (apart a b e)).one_nearer in let r = k i in omega (arith, q, r)

  once : (n a : ℕ) → Once (a ∷ ends_of (walk (toward w) n a b))
  once zero a = (λ h. h, tt)
  once (suc n) a = by (a == b) refl (once n (toward w a b))
    where
      by : (t : Bool) → (a == b) ≡ t → Once (toward w a b ∷ ends_of (walk (toward w) n (toward w a b) b)) → Once (a ∷ ends_of (walk (toward w) (suc n) a b))
      by true e k = rw e (λ h. h, tt)
      by false e k = ((λ h. absurd (let q = later (suc n) a a h in omega (arith, q))), rw e k)

near : (w h a b : ℕ) → 0 < w → a < w * h → b < w * h → distance w a b ≤ w * h
unfolding distance
near w h a b p i j =
    let ra = mod_below a w p in
    let rb = mod_below b w p in
    let qa : a / w < h = div_below a w h p (omega (arith, i)) in
    let qb : b / w < h = div_below b w h p (omega (arith, j)) in
    let m = sum_below w h p (omega (arith, qa)) in
    omega (arith, ra, rb, qa, qb, m)
  where
    sum_below : (w h : ℕ) → 0 < w → 0 < h → w + h ≤ w * h + 1
    sum_below zero h p q = absurd (omega arith)
    sum_below (suc w) zero p q = absurd (omega arith)
    sum_below (suc w) (suc h) p q = let e : suc w * suc h ≡ w * h + w + h + 1 = omega arith in omega (arith, e)

-- a step is to a node of the mesh
step_inside : (w h a b : ℕ) → 0 < w → a < w * h → b < w * h → a ≢ b → toward w a b < w * h
step_inside w h a b p i j n = by (a % w == b % w) (nat_lt a b) (nat_lt (a % w) (b % w)) refl refl refl
  where
    at : a / w * w + a % w ≡ a
    at = div-add-mod' a w

    bt : b / w * w + b % w ≡ b
    bt = div-add-mod' b w

    rb : b % w < w
    rb = mod_below b w p

    less : (x y : ℕ) → nat_lt x y ≡ true → x < y
    less x y h = grind (arith, h)

    not_less : (x y : ℕ) → nat_lt x y ≡ false → y ≤ x
    not_less x y h = grind (arith, h)

    rows_up : (q r : ℕ) → q ≤ r → q * w ≤ r * w
    rows_up zero r h = omega arith
    rows_up (suc q) zero h = absurd (omega (arith, h))
    rows_up (suc q) (suc r) h = let m = rows_up q r (omega (arith, h)) in omega (arith, m)

    -- a lower row begins that much lower
    rows_apart : (q r : ℕ) → q < r → q * w + w ≤ r * w
    rows_apart q zero h = absurd (omega (arith, h))
    rows_apart q (suc r) h = let m = rows_up q r (omega (arith, h)) in omega (arith, m)

    below : (x y r : ℕ) → x * w + r < y * w + r → x < y
    below x y r h = by_order (nat_lt x y) refl
      where
        by_order : (t : Bool) → nat_lt x y ≡ t → x < y
        by_order true e = less x y e
        by_order false e = absurd (let k = not_less x y e in let m = rows_up y x k in omega (arith, h, m))

    by : (t u v : Bool) → (a % w == b % w) ≡ t → nat_lt a b ≡ u → nat_lt (a % w) (b % w) ≡ v → toward w a b < w * h
    by true true v x y z =
        let s = equal (a % w) (b % w) x in
        let rows : a / w < b / w = below (a / w) (b / w) (a % w) (let l = less a b y in omega (arith, at, bt, l, s)) in
        let k = rows_apart (a / w) (b / w) rows in
        rw (x, y) (omega (arith, at, bt, s, k, j))
    by true false v x y z = rw (x, y) (omega (arith, i))
    by false u true x y z =
        let l = less (a % w) (b % w) z in
        let q : a / w < h = div_below a w h p (omega (arith, i)) in
        let k = rows_apart (a / w) h q in
        rw (x, z) (omega (arith, at, l, rb, k))
    by false u false x y z = rw (x, z) (omega (arith, i))

pub toward_beside : (l : Placement) (a b : ℕ) → 0 < l.width → a < l.width * l.height → b < l.width * l.height → a ≢ b → AreBeside l a (toward l.width a b)
toward_beside l a b p i j n = (i, step_inside l.width l.height a b p i j n, (one_step l.width a b p n).beside)

abbrev by_routes : ℕ → List Route → ℕ → ℕ → ℕ
by_routes w rs a b = unwrap_or (route_of rs a b) (toward w a b)

-- without cuts and routes every pair of nodes has a path
pub plain_ways : (l : Placement) → 0 < l.width → l.cuts ≡ [] → l.routes ≡ [] → Ways l
plain_ways l p no_cuts no_routes = record {
  leads = λ a b i j.
      subst (λ rs. Leads (by_routes l.width rs) b a (walk (by_routes l.width rs) (l.width * l.height) a b)) (sym no_routes)
      (comes l.width b p (l.width * l.height) a (near l.width l.height a b p i j));
  once = λ a b i j. subst (λ rs. Once (a ∷ ends_of (walk (by_routes l.width rs) (l.width * l.height) a b))) (sym no_routes) (once l.width b p (l.width * l.height) a);
  link = λ a b i j n.
      subst (λ rs. IsLink l (a, by_routes l.width rs a b)) (sym no_routes) (let t = toward_beside l a b p i j n in record {
        from = t.0;
        to = t.1;
        beside = t.2;
        there = ap (λ cs. is_cut cs a (toward l.width a b)) no_cuts;
      });
}
