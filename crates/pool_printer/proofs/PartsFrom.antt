-- The tokens of the parts from an index on.
use Rattle.std.specs.Prelude.{ℕ, zero, suc, List}
use Rattle.pool_syntax.specs.declared.token.Tok.{Tok}
use Rattle.pool_printer.specs.Canonical.{separated_by, led_by}

-- the tokens of parts from a place on
abbrev pub from_place : Tok → ℕ → List (List Tok) → List Tok
from_place separator zero parts = separated_by separator parts
from_place separator (suc i) parts = led_by separator parts
