-- The links that leave a node, by their ends in ascending order.
use Rattle.std.specs.Prelude.{ℕ, ◌+◌, ◌-◌, ◌*◌, ◌%◌, List, [], ◌∷◌, Bool, true, false, nat_le, nat_lt}

-- the list with this number before it, or without
abbrev pub led : Bool → ℕ → List ℕ → List ℕ
led true e es = e ∷ es
led false e es = es

-- the neighbours of the node k in a mesh of this width and height, in ascending order
abbrev pub ends : ℕ → ℕ → ℕ → List ℕ
ends w h k = led (nat_le w k) (k - w) (led (nat_lt 0 (k % w)) (k - 1) (led (nat_lt (k % w + 1) w) (k + 1) (led (nat_lt (k + w) (w * h)) (k + w) [])))

abbrev pub one_if : Bool → ℕ
one_if true = 1
one_if false = 0

-- how many neighbours have smaller numbers than k
abbrev pub back : ℕ → ℕ → ℕ
back w k = one_if (nat_le w k) + one_if (nat_lt 0 (k % w))
