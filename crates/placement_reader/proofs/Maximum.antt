-- The greater of two numbers.
use Rattle.std.specs.Prelude.{ℕ, if◌then◌else◌, nat_le}

abbrev pub greater : ℕ → ℕ → ℕ
greater m n = if nat_le m n then n else m
