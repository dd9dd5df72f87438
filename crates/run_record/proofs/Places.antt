-- The indices of the objects of a table.
use Rattle.std.proofs.Common.{◌≡◌, refl, ap, ℕ, ◌+◌, ◌*◌, ◌/◌, ◌%◌, ◌<◌, Bool, true, false, nat_lt, arith}
use Rattle.std.proofs.Math.Nat.{mul-le-mul_left}
use Rattle.run_record.specs.declared.asks.Asks.{Asks}
use Rattle.run_record.specs.Table.{InTable, place_of}

-- a row below another ends before it
before : (a b k r : ℕ) → a < b → r < k → a * k + r < b * k
before a b k r less small = let m = mul-le-mul_left {m = a + 1} {n = b} k (omega arith) in let e : k * (a + 1) ≡ a * k + k = omega arith in let f : k * b ≡ b * k = omega arith in omega (arith, m, e, f)

same_row : (a b k r s : ℕ) → r < k → s < k → a * k + r ≡ b * k + s → a ≡ b
same_row a b k r s p q e = by (nat_lt a b) (nat_lt b a) refl refl
  where
    by : (t u : Bool) → nat_lt a b ≡ t → nat_lt b a ≡ u → a ≡ b
    by true u i j = absurd (let l : a < b = grind (arith, i) in let m = before a b k r l p in omega (arith, m, e))
    by false true i j = absurd (let l : b < a = grind (arith, j) in let m = before b a k s l q in omega (arith, m, e))
    by false false i j = grind (arith, i, j)

-- two objects have two places
pub places_apart : (a : Asks) (o q : ℕ) → InTable a o → InTable a q → place_of a o ≡ place_of a q → o ≡ q
places_apart a o q h i e =
    let row = same_row (o / 65536) (q / 65536) a.objects (o % 65536) (q % 65536) h.1 i.1 e in
    let slot : o % 65536 ≡ q % 65536 = let m : o / 65536 * a.objects ≡ q / 65536 * a.objects = ap (λ n. n * a.objects) row in omega (arith, m, e) in
    omega (arith, row, slot)
