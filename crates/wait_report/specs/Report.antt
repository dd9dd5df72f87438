-- The text of the report of `why`: a line for each object, and a line for each cycle of calls.
use Rattle.std.specs.Prelude.{ℕ, ◌==◌, List, [], ◌∷◌, ◌++◌, length, map, filter_map, Option, None, if◌then◌else◌, codes, decimal, Some}
use Rattle.text_scan.specs.Text.{Text}
use Rattle.run_types.specs.declared.types.Standing.{Standing}
use Rattle.run_types.specs.declared.types.Standing.TheVariants as S
use Rattle.mesh_semantics.specs.Standing.{chase}
use Rattle.record_writer.specs.RecordText.{error_text, joined, object_text, text_at}
use Rattle.wait_report.specs.declared.rows.ObjectRow.{ObjectRow}

-- the words of the status of an object
abbrev pub standing_words : List Text → Standing → List Text
standing_words names S.Ready = codes "ready" ∷ []
standing_words names S.Finished = codes "finished" ∷ []
standing_words names (S.Faulted e) = codes "faulted" ∷ error_text e ∷ []
standing_words names (S.Calls b m) = codes "calls" ∷ object_text b ∷ text_at names m ∷ []
standing_words names (S.Creates c n) = codes "creates" ∷ text_at names c ∷ decimal n ∷ []
standing_words names S.Due = codes "due" ∷ []
standing_words names S.Awaits = codes "awaits" ∷ []

-- a line of words
abbrev pub line : List Text → Text
line ws = joined ws ++ 10 ∷ []

abbrev pub row_line : List Text → ObjectRow → Text
row_line names r = line (object_text r.name ∷ text_at names r.class ∷ standing_words names r.standing)

abbrev pub rows_text : List Text → List ObjectRow → Text
rows_text names [] = []
rows_text names (r ∷ rows) = row_line names r ++ rows_text names rows

-- the name that an object calls
abbrev pub called : Standing → Option ℕ
called (S.Calls b m) = Some b
called S.Ready = None
called S.Finished = None
called (S.Faulted e) = None
called (S.Creates c n) = None
called S.Due = None
called S.Awaits = None

-- the name that the object of a name calls
abbrev pub called_in : List ObjectRow → ℕ → Option ℕ
called_in [] o = None
called_in (r ∷ rows) o = if r.name == o then called r.standing else called_in rows o

-- the cycles of objects in which each calls the next, each from its least name on, in ascending order of that name
abbrev pub cycles_in : List ObjectRow → List (List ℕ)
cycles_in rows = filter_map (λ r. chase (called_in rows) (length rows) r.name r.name) rows

abbrev pub cycle_line : List ℕ → Text
cycle_line ns = line (codes "cycle" ∷ map object_text ns)

abbrev pub cycles_text : List (List ℕ) → Text
cycles_text [] = []
cycles_text (ns ∷ rest) = cycle_line ns ++ cycles_text rest

-- a line for each object, and one for each cycle
abbrev pub report_text : List Text → List ObjectRow → Text
report_text names rows = rows_text names rows ++ cycles_text (cycles_in rows)
