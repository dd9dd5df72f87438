-- Lists of nodes in rising order.
use Rattle.std.proofs.Common.{◌≡◌, ℕ, ◌+◌, ◌-◌, ◌*◌, ◌%◌, ◌<◌, ◌≤◌, List, [], ◌∷◌, Bool, true, false, nat_le, nat_lt, arith, ltb-true, leb-true}
use Rattle.std.proofs.lemmas.Nat.{mod_below}
use Rattle.mesh_routing.specs.Ways.{led, ends}

abbrev pub Above : ℕ → List ℕ → Type 0
Above x [] = Unit {0}
Above x (e ∷ es) = (x < e) × Above x es

abbrev pub Rises : List ℕ → Type 0
Rises [] = Unit {0}
Rises (e ∷ es) = Above e es × Rises es

above_led : (x : ℕ) (b : Bool) (e : ℕ) (es : List ℕ) → (b ≡ true → x < e) → Above x es → Above x (led b e es)
above_led x true e es f h = (f (λ i. true), h)
above_led x false e es f h = h

rises_led : (b : Bool) (e : ℕ) (es : List ℕ) → (b ≡ true → Above e es) → Rises es → Rises (led b e es)
rises_led true e es f h = (f (λ i. true), h)
rises_led false e es f h = h

-- the ways out of a node are in rising order
pub rising : (w h : ℕ) → 1 ≤ w → (k : ℕ) → Rises (ends w h k)
rising w h p k =
    rises_led (nat_le w k) (k - w) _ (λ t. let u = leb-true w k t in
    above_led (k - w) (nat_lt 0 (k % w)) (k - 1) _ (λ s. let v = ltb-true 0 (k % w) s in omega (arith, u, v, m, p))
    (above_led (k - w) (nat_lt (k % w + 1) w) (k + 1) _ (λ s. omega (arith, p))
    (above_led (k - w) (nat_lt (k + w) (w * h)) (k + w) [] (λ s. omega (arith, p)) tt)))
    (rises_led (nat_lt 0 (k % w)) (k - 1) _ (λ t.
    above_led (k - 1) (nat_lt (k % w + 1) w) (k + 1) _ (λ s. omega arith)
    (above_led (k - 1) (nat_lt (k + w) (w * h)) (k + w) [] (λ s. omega (arith, p)) tt))
    (rises_led (nat_lt (k % w + 1) w) (k + 1) _ (λ t. let u = ltb-true (k % w + 1) w t in
    above_led (k + 1) (nat_lt (k + w) (w * h)) (k + w) [] (λ s. omega (arith, u)) tt)
    (rises_led (nat_lt (k + w) (w * h)) (k + w) [] (λ t. tt) tt)))
  where
    m : k % w < w
    m = mod_below k w (omega (arith, p))
