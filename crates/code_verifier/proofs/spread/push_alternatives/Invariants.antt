use Rattle.std.proofs.Common.{◌≡◌, ◌++◌, map, drop}
use Rattle.std.specs.Prelude.{reverse}
use Rattle.code_verifier.specs.Spreads.{to_place}
use Rattle.code_verifier.proofs.spread.push_alternatives.Given as goal

-- the alternatives from this one on are added
abbrev pub invariant-loop-i : goal.invariant-loop-i
invariant-loop-i l = reverse l.visits.items ≡ map (to_place l.stack) (map (λ a. a.at) (drop l.i l.alternatives)) ++ reverse l.initial.visits.items
