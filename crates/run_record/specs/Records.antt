-- The lines of the text of a record in either form, each with the text of its name, and the first fault of the text.
use Rattle.std.specs.Prelude.{ℕ, ◌+◌, List, [], ◌∷◌, Option, Some, None, Bool, true, false, ◌&&◌, not, nat_eq, nat_le, bytes_eq, codes}
use Rattle.text_scan.specs.Text.{Text}
use Rattle.run_types.specs.declared.types.End.{End}
use Rattle.run_types.specs.declared.types.End.TheVariants as F
use Rattle.run_types.specs.declared.types.Line.{Line}
use Rattle.run_types.specs.declared.types.Line.TheVariants as R
use Rattle.run_types.specs.Asks.{request_number_of, is_asked}
use Rattle.record_writer.specs.SecondForm.{form_text}
use Rattle.record_parser.specs.Fields.{count_of, fields, parts}
use Rattle.run_types.specs.Partial.{only_if, ◌>>=◌}
use Rattle.record_parser.specs.Lines.{Told, line_of}
use Rattle.std.specs.Option.{option_or}
use Rattle.run_record.specs.declared.fault.RecordFault.{RecordFault}
use Rattle.run_record.specs.declared.fault.RecordFault.TheVariants as fault
use Rattle.run_record.specs.declared.parsed_line.RecordVersion.{RecordVersion}
use Rattle.run_record.specs.declared.parsed_line.RecordVersion.TheVariants as form

-- a line with the request number that it carries, if it carries one
pub record Row : Type 0 where
  pub told : Told
  pub ask : Option ℕ

-- the words before ` by` and a number, and the number
abbrev pub asked_by : List Text → Option (List Text × ℕ)
asked_by [] = None
asked_by (a ∷ []) = None
asked_by (a ∷ b ∷ []) = None
asked_by (a ∷ b ∷ c ∷ []) = only_if (bytes_eq b (codes "by")) (count_of c >>= λ n. Some (a ∷ [], n))
asked_by (a ∷ b ∷ c ∷ d ∷ ws) = asked_by (b ∷ c ∷ d ∷ ws) >>= λ r. Some (a ∷ r.0, r.1)

-- a line of any kind, without a number; a line that answers no request; a line that does, with its number
abbrev pub unnumbered : Told → Option Row
unnumbered t = Some (record { told = t; ask = None })

abbrev pub unasked : Told → Option Row
unasked t = only_if (not (is_asked t.line)) (unnumbered t)

abbrev pub asked_for : ℕ → Told → Option Row
asked_for n t = only_if (is_asked t.line) (Some (record { told = t; ask = Some n }))

-- a line of the second form; if it answers a request, ` by` and a number follow the line of the first form
abbrev pub second_of : List Text → Option Row
second_of ws = option_or (line_of ws >>= unasked) (asked_by ws >>= λ r. line_of r.0 >>= asked_for r.1)

abbrev pub row_of : RecordVersion → List Text → Option Row
row_of form.First ws = line_of ws >>= unnumbered
row_of form.Second ws = second_of ws

abbrev pub done_of : End → ℕ
done_of (F.Quiet k) = k
done_of (F.Schedule k) = k
done_of (F.Full kind n k) = k

-- whether a line has the right number: an event the next number, at most 2,000,000, and the end that of the last event
abbrev pub follows : ℕ → Line → Bool
follows last (R.Event n e w) = nat_eq n (last + 1) && nat_le n 2000000
follows last (R.End e) = nat_eq (done_of e) last

abbrev pub last_after : ℕ → Line → ℕ
last_after last (R.Event n e w) = n
last_after last (R.End e) = last

abbrev pub is_end : Line → Bool
is_end (R.Event n e w) = false
is_end (R.End e) = true

-- the lines before the first fault, and that fault
pub record Rows : Type 0 where
  pub told : List Told
  pub fault : Option RecordFault

abbrev pub refused : RecordFault → Rows
refused f = record { told = []; fault = Some f }

abbrev pub with_told : Told → Rows → Rows
with_told t r = record { told = t ∷ r.told; fault = r.fault }

abbrev pub is_empty : Text → Bool
is_empty [] = true
is_empty (b ∷ bs) = false

-- the text after the last line feed: it must be empty, and the record must have ended
abbrev pub tail_row : ℕ → Bool → Text → Rows
tail_row seen ended p = elim (ended && is_empty p) [ true ↦ record { told = []; fault = None } | false ↦ refused (fault.BadLine (seen + 1)) ]

abbrev pub order_fault : ℕ → ℕ → Bool → Line → Option RecordFault
order_fault seen last ended l = elim (not ended && follows last l) [ true ↦ None | false ↦ Some (fault.OutOfOrder (seen + 1)) ]

-- the fault of a line whose request number is not the one that the lines before it give
abbrev pub ask_fault : ℕ → ℕ → Option ℕ → Option RecordFault
ask_fault seen ask None = None
ask_fault seen ask (Some n) = elim (nat_eq n ask) [ true ↦ None | false ↦ Some (fault.WrongAsk (seen + 1)) ]

abbrev pub row_fault : List Line → ℕ → ℕ → Bool → Option Row → Option RecordFault
row_fault earlier seen last ended None = Some (fault.BadLine (seen + 1))
row_fault earlier seen last ended (Some r) = option_or (order_fault seen last ended r.told.line) (ask_fault seen (request_number_of earlier r.told.line) r.ask)

abbrev pub by_fault : Option RecordFault → Rows → Rows
by_fault None r = r
by_fault (Some f) r = refused f

-- a parsed line, if there is one, before the lines after it
abbrev pub row_then : Option Row → (Row → Rows) → Rows
row_then None next = record { told = []; fault = None }
row_then (Some r) next = with_told r.told (next r)

-- The lines after the lines `earlier`, the latest of which is the first. `seen` lines of the text were read, `last` is
-- the number of the last event, and `ended` says whether the end has come.
abbrev pub rows : RecordVersion → List Line → ℕ → ℕ → Bool → List Text → Rows
rows f earlier seen last ended [] = refused (fault.BadLine (seen + 1))
rows f earlier seen last ended (p ∷ []) = tail_row seen ended p
rows f earlier seen last ended (p ∷ q ∷ ps) =
    by_fault (row_fault earlier seen last ended (row_of f (fields p)))
    (row_then (row_of f (fields p)) (λ r. rows f (r.told.line ∷ earlier) (seen + 1) (last_after last r.told.line) (is_end r.told.line) (q ∷ ps)))

-- if the first line names the second form, the lines after it are of that form
abbrev pub rows_of : List Text → Rows
rows_of [] = rows form.First [] 0 0 false []
rows_of (p ∷ []) = rows form.First [] 0 0 false (p ∷ [])
rows_of (p ∷ q ∷ ps) = elim (bytes_eq p form_text) [ true ↦ rows form.Second [] 1 0 false (q ∷ ps) | false ↦ rows form.First [] 0 0 false (p ∷ q ∷ ps) ]

-- the lines and the fault of the text of a record; only a line feed ends a line
abbrev pub record_of : Text → Rows
record_of s = rows_of (parts 10 s)
