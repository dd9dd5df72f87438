-- The test `are_neighbours` implies the proposition `AreNeighbours`.
use Rattle.std.proofs.Common.{◌≡◌, ◌⊎◌, inl, inr, refl, ℕ, ◌+◌, ◌/◌, ◌%◌, Bool, true, false, ◌&&◌, ◌||◌, nat_eq, arith}
use Rattle.run_types.specs.Paths.{Adjacent, AreNeighbours, are_adjacent, are_neighbours}
use Rattle.run_types.proofs.Tests.{first, second}

or_either : (a b : Bool) → (a || b) ≡ true → (a ≡ true) ⊎ (b ≡ true)
or_either true b h = inl refl
or_either false b h = inr h

same : (m n : ℕ) → nat_eq m n ≡ true → m ≡ n
same m n h = grind (arith, h)

adjacent : (m n : ℕ) → are_adjacent m n ≡ true → Adjacent m n
adjacent m n h = by (or_either (nat_eq (m + 1) n) (nat_eq (n + 1) m) h)
  where
    by : (nat_eq (m + 1) n ≡ true) ⊎ (nat_eq (n + 1) m ≡ true) → Adjacent m n
    by (inl e) = inl (same (m + 1) n e)
    by (inr e) = inr (same (n + 1) m e)

pub neighbours : (w a b : ℕ) → are_neighbours w a b ≡ true → AreNeighbours w a b
neighbours w a b h = by (or_either (nat_eq (a / w) (b / w) && are_adjacent (a % w) (b % w)) (nat_eq (a % w) (b % w) && are_adjacent (a / w) (b / w)) h)
  where
    by : ((nat_eq (a / w) (b / w) && are_adjacent (a % w) (b % w)) ≡ true) ⊎ ((nat_eq (a % w) (b % w) && are_adjacent (a / w) (b / w)) ≡ true) → AreNeighbours w a b
    by (inl e) =
        let row = first (nat_eq (a / w) (b / w)) (are_adjacent (a % w) (b % w)) e in
        let column = second (nat_eq (a / w) (b / w)) (are_adjacent (a % w) (b % w)) e in
        inl (same (a / w) (b / w) row, adjacent (a % w) (b % w) column)
    by (inr e) =
        let column = first (nat_eq (a % w) (b % w)) (are_adjacent (a / w) (b / w)) e in
        let row = second (nat_eq (a % w) (b % w)) (are_adjacent (a / w) (b / w)) e in
        inr (same (a % w) (b % w) column, adjacent (a / w) (b / w) row)
