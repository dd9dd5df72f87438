-- The calls between objects, by their indices in a list.
use Rattle.std.specs.Prelude.{◌≡◌, ◌≢◌, ℕ, ◌<◌, List, length, get_or, map, Option, Some, None}
use Rattle.wait_report.specs.declared.rows.ObjectRow.{ObjectRow}
use Rattle.wait_report.specs.Report.{called}

abbrev pub names_of : List ObjectRow → List ℕ
names_of rows = map (λ r. r.name) rows

-- each number is below the later ones
abbrev pub Rising : List ℕ → Type 0
Rising xs = (j k : ℕ) → j < k → k < length xs → get_or xs j 0 < get_or xs k 0

-- the index of the called name, if the name is in the list
abbrev pub IsNext : List ℕ → Option ℕ → Option ℕ → Type 0
IsNext numbers None p = p ≡ None
IsNext numbers (Some b) None = (k : ℕ) → k < length numbers → get_or numbers k 0 ≢ b
IsNext numbers (Some b) (Some j) = (j < length numbers) × (get_or numbers j 0 ≡ b)

abbrev pub calls_of : List ObjectRow → List (Option ℕ)
calls_of rows = map (λ r. called r.standing) rows

-- These are the indices of the names that the objects call.
pub record AreNext (numbers : List ℕ) (rows : List ObjectRow) (next : List (Option ℕ)) : Type 0 where
  pub many : length next ≡ length rows
  pub each : (k : ℕ) → k < length rows → IsNext numbers (get_or (calls_of rows) k None) (get_or next k None)
