-- The test whether a slot has a given outstanding number.
use Rattle.std.specs.Prelude.{ℕ, ◌==◌, Option, Some, None, Bool, false}

-- whether the outstanding number is this one
abbrev pub is_number : ℕ → Option ℕ → Bool
is_number n None = false
is_number n (Some m) = m == n
