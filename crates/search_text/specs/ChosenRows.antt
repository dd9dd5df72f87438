-- The rows of some objects among those that wait.
use Rattle.std.specs.Prelude.{ℕ, List, [], ◌∷◌, Bool, false, ◌||◌, ◌==◌, if◌then◌else◌}
use Rattle.wait_report.specs.declared.rows.ObjectRow.{ObjectRow}

-- the name is one of these
abbrev pub has_name : List ℕ → ℕ → Bool
has_name [] o = false
has_name (n ∷ ns) o = n == o || has_name ns o

-- the rows of the objects with these names
abbrev pub rows_of : List ℕ → List ObjectRow → List ObjectRow
rows_of names [] = []
rows_of names (r ∷ rs) = if has_name names r.name then r ∷ rows_of names rs else rows_of names rs
