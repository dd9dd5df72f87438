-- The rows of the report of `pool why` for objects of code, in the order in which the code makes them.
use Rattle.std.specs.Prelude.{ℕ, List, [], ◌∷◌, map, Option, Some, nat_lt, if◌then◌else◌}
use Rattle.mesh_semantics.specs.Config.{Config, object_of}
use Rattle.mesh_semantics.specs.Delay.{Delay}
use Rattle.mesh_semantics.specs.Language.{Language}
use Rattle.run_types.specs.Partial.{◌>>=◌}
use Rattle.code_semantics.specs.declared.unit.Unit.{Unit as Code}
use Rattle.mesh_of_code.specs.Coded.{Placed, coded}
use Rattle.wait_report.specs.declared.rows.ObjectRow.{ObjectRow}
use Rattle.run_loop.specs.Reports.{row_in}

abbrev pub rows_in : {S : Type 0} → Language S → Delay → List (ℕ × S) → List ObjectRow
rows_in g d es = map (row_in g d) es

-- the row of the object with this name, if there is one
abbrev pub row_at : Code → Config Placed → Delay → ℕ → Option ObjectRow
row_at u c d o = object_of c o >>= λ x. Some (row_in (coded u) d (o, x))

-- the first entries, up to the first key that is not below the number
abbrev pub below : {X : Type 0} → ℕ → List (ℕ × X) → List (ℕ × X)
below n [] = []
below n (e ∷ es) = if nat_lt e.0 n then e ∷ below n es else []

-- the rows of the objects whose names are below a number
abbrev pub rows_below : Code → Config Placed → Delay → ℕ → List ObjectRow
rows_below u c d n = rows_in (coded u) d (below n c.objects)
