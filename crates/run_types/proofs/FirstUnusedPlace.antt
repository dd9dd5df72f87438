-- A value goes into the first unused of the eight places.
use Rattle.std.proofs.Common.{◌≡◌, refl, ap, ℕ, suc, ◌+◌, ◌-◌, ◌<◌, ◌≤◌, List, [], ◌∷◌, ◌++◌, length, take, replicate, slice_set, arith, length-append, append_assoc}
use Rattle.std.proofs.Math.Seq.{set-append_seam}
use Rattle.run_types.specs.declared.types.Value.{Value}
use Rattle.run_types.specs.declared.types.Value.TheVariants.{Nil}
use Rattle.run_types.specs.Filled.{filled}

take_one_more : (ts : List Value) (x : Value) (rest : List Value) → take (length ts + 1) (ts ++ x ∷ rest) ≡ ts ++ x ∷ []
take_one_more [] x rest = refl
take_one_more (t ∷ ts) x rest = let e : suc (length ts) + 1 ≡ suc (length ts + 1) = omega arith in rw e (ap (λ l. t ∷ l) (take_one_more ts x rest))

one_less : (n : ℕ) → n < 8 → replicate (8 - n) Nil ≡ Nil ∷ replicate (8 - (n + 1)) Nil
one_less n lt = let e : 8 - n ≡ suc (8 - (n + 1)) = omega arith in rw e refl

-- the array after the write, for the list before it
written : (ts : List Value) (x : Value) → length ts < 8 → slice_set (filled ts) (length ts) x ≡ ts ++ x ∷ replicate (8 - (length ts + 1)) Nil
written ts x lt = rw (one_less (length ts) lt) (set-append_seam ts Nil (replicate (8 - (length ts + 1)) Nil) x)

filled_again : (ts : List Value) (x : Value) → filled (ts ++ x ∷ []) ≡ ts ++ x ∷ replicate (8 - (length ts + 1)) Nil
filled_again ts x = rw (length-append ts (x ∷ [])) (append_assoc ts (x ∷ []) (replicate (8 - (length ts + 1)) Nil))

one_written : (ts : List Value) (x : Value) → length ts < 8 → (filled (take (length ts + 1) (slice_set (filled ts) (length ts) x)) ≡ slice_set (filled ts) (length ts) x) × (length (take (length ts + 1) (slice_set (filled ts) (length ts) x)) ≡ length ts + 1)
one_written ts x lt =
    rw (written ts x lt, take_one_more ts x (replicate (8 - (length ts + 1)) Nil)) (filled_again ts x, length-append ts (x ∷ []))

pub goes_in : (v : List Value) (c : ℕ) (x : Value) → c < 8 → filled (take c v) ≡ v → length (take c v) ≡ c → (c + 1 ≤ 8) × (filled (take (c + 1) (slice_set v c x)) ≡ slice_set v c x) × (length (take (c + 1) (slice_set v c x)) ≡ c + 1)
goes_in v c x lt full long =
    let h = one_written (take c v) x (rw long lt) in
    let k : (filled (take (c + 1) (slice_set v c x)) ≡ slice_set v c x) × (length (take (c + 1) (slice_set v c x)) ≡ c + 1) = rw (full, long) at h in
    (omega arith, k.0, k.1)
