use Rattle.std.proofs.Common.{◌≡◌, drop, length}
use Rattle.pool_compile.specs.Jumps.{filled}
use Rattle.pool_compile.proofs.statements.fill.Given as goal

-- filling the rest is filling all
abbrev pub invariant-loop-place : goal.invariant-loop-place
invariant-loop-place l =
    (filled l.code.code (drop l.place-index l.places) l.end ≡ filled l.initial.code.code l.places l.end) × (length l.code.code ≡ length l.initial.code.code)
