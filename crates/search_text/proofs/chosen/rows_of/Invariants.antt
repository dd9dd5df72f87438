use Rattle.std.proofs.Common.{◌≡◌, ◌++◌, drop}
use Rattle.search_text.specs.ChosenRows.{rows_of}
use Rattle.search_text.proofs.chosen.rows_of.Given as goal

-- the rows so far and those of the rest are all
abbrev pub invariant-loop-row : goal.invariant-loop-row
invariant-loop-row l = l.chosen.items ++ rows_of l.names (drop l.row-index l.rows) ≡ rows_of l.names l.rows
