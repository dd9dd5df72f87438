-- The least number so far, and the rest.
use Rattle.std.specs.Prelude.{ℕ, List, Option, Some, None}
use Rattle.wait_report.specs.Cycles.{least_of, least_from}

-- the least so far, if `at` has come, and what is left
abbrev pub least_left : ℕ → Option ℕ → List ℕ → Option ℕ
least_left at None xs = least_from at xs
least_left at (Some l) xs = Some (least_of l xs)
