-- What contracts see of a table: its patterns, by their numbers.
use Rattle.std.specs.Prelude.{ℕ, List, []}
use Rattle.patterns.specs.Patterns.{Pattern}
use Rattle.patterns.specs.Rows.{numbered, with_rows}
use Rattle.patterns.specs.declared.table.PatternTable.{PatternTable}

abbrev pub patterns : PatternTable → List Pattern
patterns t = with_rows [] t.rows.items

-- the pattern with this number
abbrev pub pattern_at : PatternTable → ℕ → Pattern
pattern_at t n = numbered (patterns t) n
