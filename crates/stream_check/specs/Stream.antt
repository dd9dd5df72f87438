-- The lines of a stream: a record in the first form whose text comes bit by bit. It may have any number of lines.
use Rattle.std.specs.Prelude.{ℕ, ◌+◌, ◌==◌, List, [], ◌∷◌, map, Option, Some, None, Bool, if◌then◌else◌}
use Rattle.std.specs.List.{list_any}
use Rattle.text_scan.specs.Text.{Text}
use Rattle.run_types.specs.declared.types.Line.{Line}
use Rattle.run_types.specs.declared.types.Line.TheVariants as R
use Rattle.record_parser.specs.Fields.{fields, parts}
use Rattle.record_parser.specs.Lines.{Told, line_of}
use Rattle.run_record.specs.declared.fault.RecordFault.{RecordFault}
use Rattle.run_record.specs.declared.fault.RecordFault.TheVariants as fault
use Rattle.run_record.specs.Numbered.{numbered}
use Rattle.run_record.specs.Records.{Rows, by_fault, done_of, is_end, with_told}

-- the number of the event after this one; after 4,294,967,295 comes 0
abbrev pub next_number : ℕ → ℕ
next_number last = if last == 4294967295 then 0 else last + 1

-- whether a line has the right number: an event the next one, and the end that of the last event
abbrev pub comes_next : ℕ → Line → Bool
comes_next last (R.Event n e what) = n == next_number last
comes_next last (R.End e) = done_of e == last

-- the fault of the line after the event `last`: it has no form of a line, or another number
abbrev pub fault_after : ℕ → Option Told → Option RecordFault
fault_after last None = Some (fault.BadLine (next_number last))
fault_after last (Some t) = if comes_next last t.line then None else Some (fault.OutOfOrder (next_number last))

-- a line before the lines after it; nothing comes after the end line
abbrev pub told_before : Option Told → Rows → Rows
told_before None rest = rest
told_before (Some t) rest = with_told t (if is_end t.line then record { told = []; fault = None } else rest)

-- the lines after the event `last`, up to the end line or the first fault, and that fault
abbrev pub rows_after : ℕ → List Text → Rows
rows_after last [] = record { told = []; fault = None }
rows_after last (p ∷ ps) = by_fault (fault_after last (line_of (fields p))) (told_before (line_of (fields p)) (rows_after (next_number last) ps))

-- all texts but the last
abbrev pub all_but_last : List Text → List Text
all_but_last [] = []
all_but_last (p ∷ []) = []
all_but_last (p ∷ q ∷ ps) = p ∷ all_but_last (q ∷ ps)

-- the lines of these bytes; only a line feed ends a line, and what is after the last one is no line yet
abbrev pub whole_lines : Text → List Text
whole_lines s = all_but_last (parts 10 s)

abbrev pub stream_rows : Text → Rows
stream_rows s = rows_after 0 (whole_lines s)

-- The lines of a stream that begins with these bytes, with the numbers of their names in the table.
-- A name that is not in the table has the first number after those of the table.
abbrev pub stream_lines : List Text → Text → List Line
stream_lines names s = map (numbered names) (stream_rows s).told

-- the fault of a stream that begins with these bytes
abbrev pub stream_fault : Text → Option RecordFault
stream_fault s = (stream_rows s).fault

-- whether one of the lines is an end line
abbrev pub has_end : List Line → Bool
has_end ls = list_any is_end ls

-- the number of the last event of lines after the event `last`
abbrev pub last_number : ℕ → List Line → ℕ
last_number last [] = last
last_number last (R.Event n e what ∷ ls) = last_number n ls
last_number last (R.End e ∷ ls) = last_number last ls

-- the fault of a stream that stops before its end line
abbrev pub cut_off : List Line → RecordFault
cut_off ls = fault.BadLine (next_number (last_number 0 ls))
