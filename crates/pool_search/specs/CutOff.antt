-- Where a search ended that does not know the answer.
use Rattle.std.specs.Prelude.{◌≡◌, ◌≤◌, ℕ}
use Rattle.pool_search.specs.declared.queries.Cause.{Cause}
use Rattle.pool_search.specs.declared.queries.Cause.TheVariants as C

-- The number of kept configurations is at most the bound. It is the bound if that is the cause.
abbrev pub IsCutOff : (most kept : ℕ) → Cause → Type 0
IsCutOff most kept (C.Bound fullest) = kept ≡ most
IsCutOff most kept (C.Transitions last) = kept ≤ most
IsCutOff most kept C.Limit = kept ≤ most
