-- Numbers of 64 bits and their halves.
use Rattle.std.proofs.Common.{◌≡◌, ℕ, ◌+◌, ◌*◌, ◌/◌, ◌%◌, ◌^◌, ◌<◌, arith}

pub halves_join : (n : ℕ) → n / 2 ^ 32 * 2 ^ 32 + n % 2 ^ 32 ≡ n
halves_join n = omega arith

pub upper_small : (n : ℕ) → n < 2 ^ 64 → n / 2 ^ 32 < 2 ^ 32
upper_small n h = omega (arith, h)

pub lower_small : (n : ℕ) → n % 2 ^ 32 < 2 ^ 32
lower_small n = omega arith

pub upper_joined : (high low : ℕ) → low < 2 ^ 32 → (high * 2 ^ 32 + low) / 2 ^ 32 ≡ high
upper_joined high low h = omega (arith, h)

pub lower_joined : (high low : ℕ) → low < 2 ^ 32 → (high * 2 ^ 32 + low) % 2 ^ 32 ≡ low
lower_joined high low h = omega (arith, h)

pub joined_small : (high low : ℕ) → high < 2 ^ 32 → low < 2 ^ 32 → high * 2 ^ 32 + low < 2 ^ 64
joined_small high low h k = omega (arith, h, k)
