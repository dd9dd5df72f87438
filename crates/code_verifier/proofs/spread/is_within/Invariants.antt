use Rattle.std.proofs.Common.{◌≡◌, drop}
use Rattle.std.specs.List.{list_all}
use Rattle.std.specs.Prelude.{is_none}
use Rattle.code_verifier.proofs.spread.is_within.Given as goal

-- none so far is reached
abbrev pub invariant-loop-place : goal.invariant-loop-place
invariant-loop-place l = list_all is_none (drop l.place l.table) ≡ list_all is_none (drop l.end l.table)
