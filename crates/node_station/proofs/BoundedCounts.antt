-- Bounds of counts.
use Rattle.std.proofs.Common.{ℕ, ◌+◌, ◌<◌, ◌≤◌, List, [], ◌∷◌, arith}
use Rattle.run_types.specs.Tables.{Each}
use Rattle.pool_node.specs.MadeCounts.{most_made}
use Rattle.pool_node.proofs.Laws.{made_below}

each_within : (ks : List ℕ) (most : ℕ) → Each (λ k. k < most + 1) ks → Each (λ k. k ≤ most) ks
each_within [] most h = tt
each_within (k ∷ ks) most h = ((let a = h.0 in omega (arith, a)), each_within ks most h.1)

-- each count is at most the largest
pub within_most : (ks : List ℕ) (most : ℕ) → most_made ks ≤ most → Each (λ k. k ≤ most) ks
within_most ks most h = each_within ks most (made_below ks (most + 1) (omega (arith, h)))

-- each count is below a number if it is at most a smaller one
pub each_below : (ks : List ℕ) (most limit : ℕ) → most < limit → Each (λ k. k ≤ most) ks → Each (λ k. k < limit) ks
each_below [] most limit h e = tt
each_below (k ∷ ks) most limit h e = ((let a = e.0 in omega (arith, a, h)), each_below ks most limit h e.1)
