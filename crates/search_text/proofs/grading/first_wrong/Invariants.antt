use Rattle.std.proofs.Common.{◌≡◌, drop, map, string_bytes, true}
use Rattle.run_types.specs.Tables.{Each}
use Rattle.search_text.specs.Grading.{is_allowed}
use Rattle.search_text.proofs.grading.first_wrong.Given as goal

-- if the outcomes that are left are allowed, all are
abbrev pub invariant-loop-place : goal.invariant-loop-place
invariant-loop-place l =
    Each (λ o. is_allowed (map string_bytes l.allowed) l.names o ≡ true) (drop l.place l.list) → Each (λ o. is_allowed (map string_bytes l.allowed) l.names o ≡ true) l.list
