-- A loop can be repeated, so that there are runs of any length.
use Rattle.std.proofs.Common.{◌≡◌, ◌≤◌, refl, ℕ, zero, suc, List, [], ◌∷◌, ◌++◌, ◌+◌, length, Some, arith}
use Rattle.run_types.specs.declared.types.Label.{Label}
use Rattle.pool_syntax.specs.Terms.{ProgramTree}
use Rattle.pool_relation.specs.Configuration.{Configuration}
use Rattle.pool_relation.specs.Transition.{run}
use Rattle.search_laws.specs.Bounded.{ComesBack, HasLongRuns}
use Rattle.search_laws.proofs.Splits.{joined}

-- the labels, so many times
abbrev times : ℕ → List Label → List Label
times zero ls = []
times (suc k) ls = ls ++ times k ls

length_joined : (ls ks : List Label) → length (ls ++ ks) ≡ length ls + length ks
length_joined [] ks = omega arith
length_joined (l ∷ ls) ks = let rest = length_joined ls ks in omega arith

repeats : (p : ProgramTree) (c : Configuration) (loop : List Label) → run p c loop ≡ Some c → (k : ℕ) → run p c (times k loop) ≡ Some c
repeats p c loop back zero = refl
repeats p c loop back (suc k) = joined p c c c loop (times k loop) back (repeats p c loop back k)

is_long : (loop : List Label) → 1 ≤ length loop → (k : ℕ) → k ≤ length (times k loop)
is_long loop some zero = omega arith
is_long loop some (suc k) = let rest = is_long loop some k in let all = length_joined loop (times k loop) in omega arith

pub long_runs : (p : ProgramTree) (front loop : List Label) → ComesBack p front loop → HasLongRuns p
long_runs p front loop h n =
    let more = is_long loop h.some n in
    let all = length_joined front (times n loop) in
    (h.root, h.first, h.there, front ++ times n loop, h.starts, joined p h.first h.there h.there front (times n loop) h.leads (repeats p h.there loop h.back n), omega arith)
