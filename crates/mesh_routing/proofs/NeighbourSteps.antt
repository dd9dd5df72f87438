-- The steps from a node to its neighbours.
use Rattle.std.proofs.Common.{◌≡◌, ◌≢◌, ◌⊎◌, inl, inr, sym, ap, subst, ℕ, ◌+◌, ◌*◌, ◌/◌, ◌%◌, ◌<◌, ◌≤◌, [], arith}
use Rattle.std.proofs.lemmas.Nat.{div-add-mod', mod_below}
use Rattle.run_types.specs.declared.types.Placement.{Placement}
use Rattle.run_types.specs.Paths.{toward, AreNeighbours}
use Rattle.run_types.proofs.Laws.{toward_beside}

-- the next node is one of the mesh, beside this one
pub stepped : (w h a b n : ℕ) → 1 ≤ w → a < w * h → b < w * h → a ≢ b → n ≡ toward w a b → (n < w * h) × AreNeighbours w a n
stepped w h a b n p i j d e =
    let l : Placement = record { width = w; height = h; objects = 0; frames = 0; cells = 0; places = []; cuts = []; routes = [] } in
    let s = toward_beside l a b (omega (arith, p)) i j d in
    subst (λ m. (m < w * h) × AreNeighbours w a m) (sym e) (s.1, s.2)

-- a node beside another one with a number that is not less follows it in its row, or stands below it
pub onward : (w h a b : ℕ) → 1 ≤ w → AreNeighbours w a b → a ≤ b → ((b ≡ a + 1) × (a % w + 1 < w)) ⊎ (b ≡ a + w)
onward w h a b p k le = by k
  where
    at : a / w * w + a % w ≡ a
    at = div-add-mod' a w

    bt : b / w * w + b % w ≡ b
    bt = div-add-mod' b w

    by : AreNeighbours w a b → ((b ≡ a + 1) × (a % w + 1 < w)) ⊎ (b ≡ a + w)
    by (inl (row, inl column)) =
        let r : a / w * w ≡ b / w * w = ap (λ q. q * w) row in
        let m = mod_below b w (omega (arith, p)) in
        inl (omega (arith, r, at, bt, column), omega (arith, column, m))
    by (inl (row, inr column)) = absurd (let r : a / w * w ≡ b / w * w = ap (λ q. q * w) row in omega (arith, r, at, bt, column, le))
    by (inr (column, inl row)) = let r : (a / w + 1) * w ≡ b / w * w = ap (λ q. q * w) row in inr (omega (arith, r, at, bt, column))
    by (inr (column, inr row)) =
        absurd (let r : (b / w + 1) * w ≡ a / w * w = ap (λ q. q * w) row in let m = mod_below b w (omega (arith, p)) in omega (arith, r, at, bt, column, le, p))
