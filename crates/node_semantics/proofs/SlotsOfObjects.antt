-- The objects of a node, by rising names, are those in its slots. So the counts agree, and the ready objects.
use Rattle.std.proofs.Common.{◌≡◌, ◌≢◌, ◌⊎◌, inl, inr, refl, sym, ap, ap₂, subst, ◌∙◌, IsTrue, ℕ, suc, ◌+◌, ◌-◌, ◌<◌, ◌≤◌, ◌==◌, List, [], ◌∷◌, length, Option, Some, None, Bool, true, false, ◌&&◌, if◌then◌else◌, arith}
use Rattle.std.specs.Prelude.{slice_get, sum_by, filter}
use Rattle.std.specs.Ordering.{nat_cmp, is_lt}
use Rattle.std.specs.declared.cmp.Ordering.{Ordering}
use Rattle.std.specs.declared.cmp.Ordering.TheVariants.{Less, Equal, Greater}
use Rattle.std.specs.FinMap.{find}
use Rattle.std.specs.FinMap.Entries.{is_sorted, below_all}
use Rattle.std.proofs.lemmas.List.Sums.{sum_by-cons}
use Rattle.run_types.proofs.Laws.{decide, equal, equals, first, second, each_map}
use Rattle.run_types.specs.Paths.{total}
use Rattle.run_types.specs.ObjectNames.{node_of, slot_of}
use Rattle.mesh_semantics.specs.Act.{first_of}
use Rattle.run_types.specs.Tables.{Each}
use Rattle.node_semantics.specs.Node.{name_at, placed}
use Rattle.node_semantics.proofs.NamesAndSlots.{whole_name, name_node, name_slot}

-- what is looked up in a map

module _ {Y : Type 0} where
  pub find_head : (q : ℕ) (y : Y) (es : List (ℕ × Y)) → find nat_cmp q ((q, y) ∷ es) ≡ Some y
  find_head q y es = let e : nat_cmp q q ≡ Equal = grind arith in rw e refl

  pub find_skip : (q : ℕ) (e : ℕ × Y) (es : List (ℕ × Y)) → q ≢ e.0 → find nat_cmp q (e ∷ es) ≡ find nat_cmp q es
  find_skip q e es n = by (nat_cmp q e.0) refl
    where
      by : (r : Ordering) → nat_cmp q e.0 ≡ r → find nat_cmp q (e ∷ es) ≡ find nat_cmp q es
      by Less i = rw i refl
      by Greater i = rw i refl
      by Equal i = absurd (let z : q ≡ e.0 = grind (arith, i) in n z)

  pub each_below : (k : ℕ) (es : List (ℕ × Y)) → IsTrue (below_all nat_cmp k es) → Each (λ e. k < e.0) es
  each_below k [] h = tt
  each_below k (e ∷ es) h = (
    let z = first (is_lt (nat_cmp k e.0)) (below_all nat_cmp k es) h in under (nat_cmp k e.0) refl z,
    each_below k es (second (is_lt (nat_cmp k e.0)) (below_all nat_cmp k es) h),
  )
    where
      under : (r : Ordering) → nat_cmp k e.0 ≡ r → is_lt (nat_cmp k e.0) ≡ true → k < e.0
      under Less i z = grind (arith, i)
      under Equal i z = absurd (let w : is_lt Equal ≡ true = subst (λ r. is_lt r ≡ true) i z in cc)
      under Greater i z = absurd (let w : is_lt Greater ≡ true = subst (λ r. is_lt r ≡ true) i z in cc)

  find_absent : (q : ℕ) (es : List (ℕ × Y)) → Each (λ e. q < e.0) es → find nat_cmp q es ≡ None
  find_absent q [] h = refl
  find_absent q (e ∷ es) h = find_skip q e es (λ z. absurd (let a = h.0 in omega (arith, a, z))) ∙ find_absent q es h.1

module _ {X Y : Type 0} (R : ℕ → X → Y → Type 0) where
  -- at a name there are both or neither
  abbrev pub Meets : ℕ → Option X → Option Y → Type 0
  Meets q None None = Unit {0}
  Meets q (Some s) (Some y) = R q s y
  Meets q None (Some y) = ⊥
  Meets q (Some s) None = ⊥

  module _ (n : ℕ) where
    -- the entries are those of the slots from i on, in this order
    abbrev pub Rows : ℕ → List (ℕ × Y) → List X → Type 0
    Rows i [] [] = Unit {0}
    Rows i (e ∷ es) (s ∷ ss) = (e.0 ≡ name_at n i) × R e.0 s e.1 × Rows (i + 1) es ss
    Rows i [] (s ∷ ss) = ⊥
    Rows i (e ∷ es) [] = ⊥

    abbrev pub at : ℕ × Y → Bool
    at e = node_of e.0 == n

    pub rows : (es : List (ℕ × Y)) (ss : List X) (i : ℕ) → IsTrue (is_sorted nat_cmp es) → i + length ss ≤ 65536
        → Each (λ e. node_of e.0 ≡ n → i ≤ slot_of e.0) es
        → ((q : ℕ) → node_of q ≡ n → i ≤ slot_of q → Meets q (slice_get ss (slot_of q - i)) (find nat_cmp q es)) → Rows i (filter at es) ss
    rows [] [] i o f low look = tt
    rows [] (s ∷ ss) i o f low look =
        let small : i < 65536 = omega (arith, f) in
        let q : ℕ = name_at n i in
        let e : slot_of (name_at n i) ≡ i = name_slot n i small in
        let z : slot_of (name_at n i) - i ≡ 0 = omega (arith, e) in
        absurd (subst (λ k. Meets (name_at n i) (slice_get (s ∷ ss) k) None) z (look (name_at n i) (name_node n i small) (omega (arith, e))))
    rows (e ∷ es) ss i o f low look = by (node_of e.0 == n) refl (rows es)
      where
        sorted : IsTrue (is_sorted nat_cmp es)
        sorted = second (below_all nat_cmp e.0 es) (is_sorted nat_cmp es) o

        above : Each (λ z. e.0 < z.0) es
        above = each_below e.0 es (first (below_all nat_cmp e.0 es) (is_sorted nat_cmp es) o)

        Rest : Type 0
        Rest = (ss : List X) (i : ℕ) → IsTrue (is_sorted nat_cmp es) → i + length ss ≤ 65536
            → Each (λ e. node_of e.0 ≡ n → i ≤ slot_of e.0) es
            → ((q : ℕ) → node_of q ≡ n → i ≤ slot_of q → Meets q (slice_get ss (slot_of q - i)) (find nat_cmp q es)) → Rows i (filter at es) ss

        higher : node_of e.0 ≡ n → slot_of e.0 ≡ i → Each (λ z. node_of z.0 ≡ n → i + 1 ≤ slot_of z.0) es
        higher a b = each_map (λ z. e.0 < z.0) (λ z. node_of z.0 ≡ n → i + 1 ≤ slot_of z.0) (λ z h k. omega (arith, h, k, a, b)) es above

        next : (s : X) (zs : List X) → ss ≡ s ∷ zs → node_of e.0 ≡ n → slot_of e.0 ≡ i → (q : ℕ) → node_of q ≡ n → i + 1 ≤ slot_of q
            → Meets q (slice_get zs (slot_of q - (i + 1))) (find nat_cmp q es)
        next s zs j a b q u v =
            let k : slot_of q - i ≡ suc (slot_of q - (i + 1)) = omega (arith, v) in
            let w : Meets q (slice_get ss (slot_of q - i)) (find nat_cmp q (e ∷ es)) = look q u (omega (arith, v)) in
            let w' : Meets q (slice_get (s ∷ zs) (suc (slot_of q - (i + 1)))) (find nat_cmp q (e ∷ es)) = subst (λ (p : List X × ℕ). Meets q (slice_get p.0 p.1) (find nat_cmp q (e ∷ es))) (λ t. (j t, k t)) w in
            subst (Meets q (slice_get zs (slot_of q - (i + 1)))) (find_skip q e es (λ z. absurd (let c : slot_of q ≡ slot_of e.0 = ap slot_of z in omega (arith, b, v, c)))) w'

        here : (zs : List X) → ss ≡ zs → Rest → node_of e.0 ≡ n → slot_of e.0 ≡ i → Rows i (e ∷ filter at es) zs
        here [] j rest a b = absurd (
            let w : Meets e.0 (slice_get ss (slot_of e.0 - i)) (find nat_cmp e.0 (e ∷ es)) = look e.0 a (omega (arith, b)) in
            subst (λ (p : List X × Option Y). Meets e.0 (slice_get p.0 (slot_of e.0 - i)) p.1) (λ t. (j t, find_head e.0 e.1 es t)) w)
        here (s ∷ zs) j rest a b =
            let w : Meets e.0 (slice_get ss (slot_of e.0 - i)) (find nat_cmp e.0 (e ∷ es)) = look e.0 a (omega (arith, b)) in
            let k : slot_of e.0 - i ≡ 0 = omega (arith, b) in
            let r : R e.0 s e.1 = subst (λ (p : List X × ℕ × Option Y). Meets e.0 (slice_get p.0 p.1) p.2) (λ t. (j t, k t, find_head e.0 e.1 es t)) w in
            let fits : i + 1 + length zs ≤ 65536 = let c : length ss ≡ suc (length zs) = ap length j in omega (arith, f, c) in
            (sym (whole_name e.0) ∙ ap₂ name_at a b, r, rest zs (i + 1) sorted fits (higher a b) (next s zs j a b))

        -- no slot would be left out
        gap : (zs : List X) → ss ≡ zs → node_of e.0 ≡ n → slot_of e.0 ≢ i → ⊥
        gap [] j a b =
            let w : Meets e.0 (slice_get ss (slot_of e.0 - i)) (find nat_cmp e.0 (e ∷ es)) = look e.0 a (low.0 a) in
            subst (λ (p : List X × Option Y). Meets e.0 (slice_get p.0 (slot_of e.0 - i)) p.1) (λ t. (j t, find_head e.0 e.1 es t)) w
        gap (s ∷ zs) j a b =
            let u = low.0 a in
            let c : length ss ≡ suc (length zs) = ap length j in
            let small : i < 65536 = omega (arith, f, c) in
            let q : slot_of (name_at n i) ≡ i = name_slot n i small in
            let v : name_at n i < e.0 = let y = whole_name e.0 in omega (arith, a, b, u, y) in
            let none : find nat_cmp (name_at n i) (e ∷ es) ≡ None = find_absent (name_at n i) (e ∷ es) (v, each_map (λ z. e.0 < z.0) (λ z. name_at n i < z.0) (λ z h. omega (arith, h, v)) es above) in
            let k : slot_of (name_at n i) - i ≡ 0 = omega (arith, q) in
            let w = look (name_at n i) (name_node n i small) (omega (arith, q)) in
            subst (λ (p : List X × ℕ × Option Y). Meets (name_at n i) (slice_get p.0 p.1) p.2) (λ t. (j t, k t, none t)) w

        by : (b : Bool) → (node_of e.0 == n) ≡ b → Rest → Rows i (filter at (e ∷ es)) ss
        by false j rest = rw j (rest ss i sorted f low.1 (λ q a b. subst (Meets q (slice_get ss (slot_of q - i)))
            (find_skip q e es (λ z. absurd (let w : (node_of e.0 == n) ≡ true = rw (sym (ap node_of z), a) (equals n) in let u : true ≡ false = sym w ∙ j in cc))) (look q a b)))
        by true j rest = rw j (at_i (decide (slot_of e.0) i))
          where
            mine : node_of e.0 ≡ n
            mine = equal (node_of e.0) n j

            at_i : (slot_of e.0 ≡ i) ⊎ (slot_of e.0 ≢ i) → Rows i (e ∷ filter at es) ss
            at_i (inl z) = here ss refl rest mine z
            at_i (inr z) = absurd (gap ss refl mine z)

-- sums and first elements

total_filter : {E : Type 0} (t : E → Bool) (f : E → ℕ) (es : List E) → total (λ e. if t e then f e else 0) es ≡ total f (filter t es)
total_filter t f [] = refl
total_filter t f (e ∷ es) = by (t e) refl (total_filter t f es)
  where
    by : (b : Bool) → t e ≡ b → total (λ e. if t e then f e else 0) es ≡ total f (filter t es) → total (λ e. if t e then f e else 0) (e ∷ es) ≡ total f (filter t (e ∷ es))
    by true i k = rw i (ap (λ n. f e + n) k)
    by false i k = rw i (omega (arith, k))

pub filter_and : {E : Type 0} (t u : E → Bool) (es : List E) → filter u (filter t es) ≡ filter (λ e. t e && u e) es
filter_and t u [] = refl
filter_and {E} t u (e ∷ es) = by (t e) (u e) refl refl (filter_and t u es)
  where
    by : (a b : Bool) → t e ≡ a → u e ≡ b → filter u (filter t es) ≡ filter (λ e. t e && u e) es → filter u (filter t (e ∷ es)) ≡ filter (λ e. t e && u e) (e ∷ es)
    by true true i j k = rw (i, j) (ap (λ (zs : List E). e ∷ zs) k)
    by true false i j k = rw (i, j) k
    by false b i j k = rw i k

module _ {X Y : Type 0} (R : ℕ → X → Y → Type 0) (n : ℕ) where
  rows_total : (f : ℕ × Y → ℕ) (h : X → ℕ) → ((q : ℕ) (s : X) (y : Y) → R q s y → f (q, y) ≡ h s) → (i : ℕ) (es : List (ℕ × Y)) (ss : List X) → Rows R n i es ss
      → total f es ≡ sum_by h ss
  rows_total f h same i [] [] r = refl
  rows_total f h same i (e ∷ es) (s ∷ ss) r =
      ap₂ (λ a b. a + b) (same e.0 s e.1 r.1) (rows_total f h same (i + 1) es ss r.2) ∙ sym (sum_by-cons h s ss)
  rows_total f h same i [] (s ∷ ss) r = absurd r
  rows_total f h same i (e ∷ es) [] r = absurd r

  pub rows_count : (f : ℕ × Y → ℕ) (h : X → ℕ) → ((q : ℕ) (s : X) (y : Y) → R q s y → f (q, y) ≡ h s) → (es : List (ℕ × Y)) (ss : List X) → Rows R n 0 (filter (at R n) es) ss
      → total (λ e. if node_of e.0 == n then f e else 0) es ≡ sum_by h ss
  rows_count f h same es ss r = total_filter (at R n) f es ∙ rows_total f h same 0 (filter (at R n) es) ss r

  -- the same element of both, or none
  pub data Picks (Q : ℕ × X → Bool) : Option (ℕ × Y) → Option (ℕ × X) → Type 0 where
    Neither : Picks Q None None
    Both : (j : ℕ) (s : X) (y : Y) → j < 65536 → R (name_at n j) s y → Q (j, s) ≡ true → Picks Q (Some (name_at n j, y)) (Some (j, s))

  pub picks : (P : ℕ × Y → Bool) (Q : ℕ × X → Bool) → ((j : ℕ) (s : X) (y : Y) → j < 65536 → R (name_at n j) s y → P (name_at n j, y) ≡ Q (j, s))
      → (i : ℕ) (es : List (ℕ × Y)) (ss : List X) → i + length ss ≤ 65536 → Rows R n i es ss → Picks Q (first_of (filter P es)) (first_of (filter Q (placed i ss)))
  picks P Q same i [] [] f r = Neither
  picks P Q same i (e ∷ es) (s ∷ ss) f r = by (Q (i, s)) refl (picks P Q same (i + 1) es ss (omega (arith, f)) r.2)
    where
      small : i < 65536
      small = omega (arith, f)

      related : R (name_at n i) s e.1
      related = subst (λ q. R q s e.1) r.0 r.1

      is : P e ≡ Q (i, s)
      is = ap P (λ t. (r.0 t, e.1)) ∙ same i s e.1 small related

      by : (b : Bool) → Q (i, s) ≡ b → Picks Q (first_of (filter P es)) (first_of (filter Q (placed (i + 1) ss)))
          → Picks Q (first_of (filter P (e ∷ es))) (first_of (filter Q (placed i (s ∷ ss))))
      by true j k = rw (j, is ∙ j) (subst (λ (z : ℕ × Y). Picks Q (Some z) (Some (i, s))) (λ t. (sym r.0 t, e.1)) (Both i s e.1 small related j))
      by false j k = rw (j, is ∙ j) k
  picks P Q same i [] (s ∷ ss) f r = absurd r
  picks P Q same i (e ∷ es) [] f r = absurd r
