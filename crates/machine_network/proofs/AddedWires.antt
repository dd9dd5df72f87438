-- One new wire more, and all new wires of one node more.
use Rattle.std.proofs.Common.{◌≡◌, ◌≢◌, ◌⊎◌, inl, inr, refl, sym, ap, subst, ◌∙◌, ℕ, ◌+◌, ◌<◌, ◌≤◌, [], is_some, true, arith}
use Rattle.std.specs.FinMap.{put}
use Rattle.std.specs.Option.{unwrap_or}
use Rattle.run_types.specs.Paths.{AreNeighbours}
use Rattle.run_types.specs.Tables.{Pair, pair_cmp}
use Rattle.mesh_semantics.specs.KeptWire.{empty_kept}
use Rattle.run_types.proofs.Laws.{find_pair_other, find_pair_same}
use Rattle.node_semantics.proofs.Laws.{decide_link}
use Rattle.machine_network.specs.LinkWires.{LinkWires, has_wire, wire_of}
use Rattle.machine_network.specs.WireReports.{AreNew}

added_empty : (ws : LinkWires) (k j : Pair) → ((i : Pair) → wire_of ws i ≡ empty_kept) → wire_of (put pair_cmp k empty_kept ws) j ≡ empty_kept
added_empty ws k j h = by (decide_link j k)
  where
    by : (j ≡ k) ⊎ (j ≢ k) → wire_of (put pair_cmp k empty_kept ws) j ≡ empty_kept
    by (inl i) = subst (λ z. wire_of (put pair_cmp k empty_kept ws) z ≡ empty_kept) (sym i) (ap (λ o. unwrap_or o empty_kept) (find_pair_same k empty_kept ws))
    by (inr n) = ap (λ o. unwrap_or o empty_kept) (find_pair_other j k empty_kept ws n) ∙ h j

added_there : (ws : LinkWires) (k j : Pair) → ((j ≢ k) → has_wire ws j ≡ true) → has_wire (put pair_cmp k empty_kept ws) j ≡ true
added_there ws k j h = by (decide_link j k)
  where
    by : (j ≡ k) ⊎ (j ≢ k) → has_wire (put pair_cmp k empty_kept ws) j ≡ true
    by (inl i) = subst (λ z. has_wire (put pair_cmp k empty_kept ws) z ≡ true) (sym i) (ap is_some (find_pair_same k empty_kept ws))
    by (inr n) = ap is_some (find_pair_other j k empty_kept ws n) ∙ h n

module _ (width size from to : ℕ) where
  -- places before the next one
  before_next : (a b : ℕ) → (a < from) ⊎ ((a ≡ from) × (b < to + 1)) → ((a < from) ⊎ ((a ≡ from) × (b < to))) ⊎ ((a ≡ from) × (b ≡ to))
  before_next a b (inl h) = inl (inl h)
  before_next a b (inr h) = by (split b to h.1)
    where
      split : (x y : ℕ) → x < y + 1 → (x < y) ⊎ (x ≡ y)
      split x y h = grind (arith, h)

      by : (b < to) ⊎ (b ≡ to) → ((a < from) ⊎ ((a ≡ from) × (b < to))) ⊎ ((a ≡ from) × (b ≡ to))
      by (inl i) = inl (inr (h.0, i))
      by (inr i) = inr (h.0, i)

  pub one_added : (ws ws' : LinkWires) → AreNew width size from to ws → ws' ≡ put pair_cmp (from, to) empty_kept ws → AreNew width size from (to + 1) ws'
  one_added ws ws' h e = subst (AreNew width size from (to + 1)) (sym e) (record {
    empty = λ k. added_empty ws (from, to) k h.empty;
    there = λ a b i j n. by a b j n (before_next a b i);
  })
    where
      by : (a b : ℕ) → b < size → AreNeighbours width a b → ((a < from) ⊎ ((a ≡ from) × (b < to))) ⊎ ((a ≡ from) × (b ≡ to)) → has_wire (put pair_cmp (from, to) empty_kept ws) (a, b) ≡ true
      by a b j n (inl i) = added_there ws (from, to) (a, b) (λ _. h.there a b i j n)
      by a b j n (inr i) = added_there ws (from, to) (a, b) (λ away. absurd (away (λ z. (i.0 z, i.1 z))))

  -- there is no such link
  pub none_added : (ws : LinkWires) → AreNew width size from to ws → (AreNeighbours width from to → ⊥) → AreNew width size from (to + 1) ws
  none_added ws h none = record { empty = h.empty; there = λ a b i j n. by a b j n (before_next a b i) }
    where
      by : (a b : ℕ) → b < size → AreNeighbours width a b → ((a < from) ⊎ ((a ≡ from) × (b < to))) ⊎ ((a ≡ from) × (b ≡ to)) → has_wire ws (a, b) ≡ true
      by a b j n (inl i) = h.there a b i j n
      by a b j n (inr i) = absurd (none (subst (λ z. AreNeighbours width z to) i.0 (subst (λ z. AreNeighbours width a z) i.1 n)))

-- all links of one node more
pub node_added : (width size from to : ℕ) (ws : LinkWires) → size ≤ to → AreNew width size from to ws → AreNew width size (from + 1) 0 ws
node_added width size from to ws full h = record { empty = h.empty; there = λ a b i j n. h.there a b (by a b j i) j n }
  where
    split : (x y : ℕ) → x < y + 1 → (x < y) ⊎ (x ≡ y)
    split x y h = grind (arith, h)

    last : (a b : ℕ) → b < size → (a < from) ⊎ (a ≡ from) → (a < from) ⊎ ((a ≡ from) × (b < to))
    last a b j (inl i) = inl i
    last a b j (inr i) = inr (i, omega (arith, j, full))

    by : (a b : ℕ) → b < size → (a < from + 1) ⊎ ((a ≡ from + 1) × (b < 0)) → (a < from) ⊎ ((a ≡ from) × (b < to))
    by a b j (inl i) = last a b j (split a from i)
    by a b j (inr i) = absurd (let z = i.1 in omega (arith, z))

pub none_yet : (width size : ℕ) → AreNew width size 0 0 []
none_yet width size = record { empty = λ k. refl; there = λ a b i j n. absurd (by a b i) }
  where
    by : (a b : ℕ) → (a < 0) ⊎ ((a ≡ 0) × (b < 0)) → ⊥
    by a b (inl h) = omega (arith, h)
    by a b (inr h) = let z = h.1 in omega (arith, z)
