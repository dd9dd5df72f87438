-- The rows of objects whose names of classes and methods are in the table.
use Rattle.std.specs.Prelude.{◌≡◌, ℕ, ◌<◌, List, length, Some, slice_get}
use Rattle.text_scan.specs.Text.{Text}
use Rattle.run_types.specs.declared.types.Standing.{Standing}
use Rattle.run_types.specs.declared.types.Standing.TheVariants as S
use Rattle.wait_report.specs.declared.rows.ObjectRow.{ObjectRow}

-- the names of a status are in the table
abbrev pub IsKnown : List Text → Standing → Type 0
IsKnown names (S.Calls b m) = m.0 < length names
IsKnown names (S.Creates c n) = c.0 < length names
IsKnown names S.Ready = Unit {0}
IsKnown names S.Finished = Unit {0}
IsKnown names (S.Faulted e) = Unit {0}
IsKnown names S.Due = Unit {0}
IsKnown names S.Awaits = Unit {0}

abbrev pub IsKnownAt : List Text → ObjectRow → Type 0
IsKnownAt names r = (r.class.0 < length names) × IsKnown names r.standing

abbrev pub AreKnown : List Text → List ObjectRow → Type 0
AreKnown names rows = (k : ℕ) (r : ObjectRow) → slice_get rows k ≡ Some r → IsKnownAt names r
