-- The lines of a text without fault are the lines of a record: they are readable and in the order of a record.
use Rattle.std.proofs.Common.{◌≡◌, refl, sym, ap, subst, ◌∙◌, ℕ, ◌+◌, Bool, true, false, nat_eq, nat_le, bytes_eq, List, [], ◌∷◌, Option, Some, None}
use Rattle.std.proofs.lemmas.Bool.{and_parts, leb-true}
use borrow.Author.Tests.{eqb-true}
use Rattle.run_types.specs.Asks.{request_number_of}
use Rattle.run_types.specs.Tables.{Each}
use Rattle.text_scan.specs.Text.{Text}
use Rattle.run_types.specs.declared.types.Line.{Line}
use Rattle.run_types.specs.declared.types.Line.TheVariants as R
use Rattle.record_writer.specs.SecondForm.{form_text}
use Rattle.record_parser.specs.Fields.{fields, parts}
use Rattle.record_parser.specs.Lines.{Told}
use Rattle.record_parser.specs.Shown.{no_number}
use Rattle.std.specs.Option.{option_or}
use Rattle.run_record.specs.declared.fault.RecordFault.{RecordFault}
use Rattle.run_record.specs.declared.fault.RecordFault.TheVariants as fault
use Rattle.run_record.specs.declared.parsed_line.RecordVersion.{RecordVersion}
use Rattle.run_record.specs.declared.parsed_line.RecordVersion.TheVariants as form
use Rattle.run_record.specs.Numbered.{line_with, lines_after, names_after, numbered, with_name}
use Rattle.run_record.specs.Readable.{IsRecord, IsRecordFrom}
use Rattle.run_record.specs.Records.{Row, Rows, ask_fault, by_fault, done_of, follows, is_empty, is_end, last_after, record_of, refused, row_fault, row_of, row_then, rows, rows_of, with_told}
use Rattle.run_record.proofs.ReadIsReadable.{FitsLine, FitsTold, IsReadableLine, line_there, told_fit}

-- a line in its place, before the others; behind the end there is none
one_line : (names : List Text) (last : ℕ) (t : Told) (ts : List Told) → follows last t.line ≡ true → FitsTold t
    → (is_end t.line ≡ false → IsRecordFrom (names_after (with_name names t.text) ts) (last_after last t.line) (lines_after (with_name names t.text) ts)) → (is_end t.line ≡ true → ts ≡ [])
    → IsRecordFrom (names_after (with_name names t.text) ts) last (numbered names t ∷ lines_after (with_name names t.text) ts)
one_line names last t ts next fits more none = by (numbered names t) here.readable (ap (λ (u : Told). u.line) here.again)
  where
    all : List Text
    all = names_after (with_name names t.text) ts

    here : FitsLine all (numbered names t) t
    here = line_there names t ts fits

    by : (l : Line) → IsReadableLine all l → line_with no_number l ≡ t.line → IsRecordFrom all last (l ∷ lines_after (with_name names t.text) ts)
    by (R.Event n e w) h same =
        let both = and_parts (nat_eq n (last + 1)) (nat_le n 2000000) (ap (follows last) same ∙ next) in (
          eqb-true n (last + 1) both.0,
          leb-true n 2000000 both.1,
          h.0,
          h.1,
          subst (λ k. IsRecordFrom all k (lines_after (with_name names t.text) ts)) (ap (last_after last) (sym same)) (more (ap is_end (sym same))),
        )
    by (R.End end) h same =
        subst (λ (us : List Told). IsRecordFrom all last (R.End end ∷ lines_after (with_name names t.text) us)) (sym (none (ap is_end (sym same))))
        (eqb-true (done_of end) last (ap (follows last) same ∙ next), h)

-- the end of a text
abbrev tail : ℕ → Bool → Rows
tail seen b = elim b as (λ x. Rows) [ true ↦ record { told = []; fault = None } | false ↦ refused (fault.BadLine (seen + 1)) ]

none_behind : (f : RecordVersion) (earlier : List Line) (seen last : ℕ) (ps : List Text) → (rows f earlier seen last true ps).fault ≡ None → (rows f earlier seen last true ps).told ≡ []
none_behind f earlier seen last [] e = refl
none_behind f earlier seen last (p ∷ []) e = by (is_empty p)
  where
    by : (b : Bool) → (tail seen b).told ≡ []
    by true = refl
    by false = refl
none_behind f earlier seen last (p ∷ q ∷ ps) e = by (row_of f (fields p))
  where
    next : Row → Rows
    next r = rows f (r.told.line ∷ earlier) (seen + 1) (last_after last r.told.line) (is_end r.told.line) (q ∷ ps)

    by : (o : Option Row) → (by_fault (row_fault earlier seen last true o) (row_then o next)).told ≡ []
    by None = refl
    by (Some r) = refl

-- Without fault they are those behind an event of this number.
abbrev AreInOrder : List Text → ℕ → Rows → Type 0
AreInOrder names last r = r.fault ≡ None → Each FitsTold r.told → IsRecordFrom (names_after names r.told) last (lines_after names r.told)

-- whether a line is in order, and what is wrong with the number that it carries
abbrev placed : ℕ → Bool → Option RecordFault → Rows → Rows
placed seen b x r = by_fault (option_or (elim b as (λ z. Option RecordFault) [ true ↦ None | false ↦ Some (fault.OutOfOrder (seen + 1)) ]) x) r

-- and so are those behind a line
abbrev Again : RecordVersion → List Line → ℕ → List Text → List Text → Row → Type 0
Again f earlier seen names ps r = (k : ℕ) → AreInOrder (with_name names r.told.text) k (rows f (r.told.line ∷ earlier) (seen + 1) k false ps)

ordered : (f : RecordVersion) (earlier : List Line) (seen last : ℕ) (names : List Text) (ps : List Text) → AreInOrder names last (rows f earlier seen last false ps)
ordered f earlier seen last names [] = λ e h. absurd (cc)
ordered f earlier seen last names (p ∷ []) = λ e h. absurd (cc)
ordered f earlier seen last names (p ∷ q ∷ ps) = by (row_of f (fields p)) (λ r k. ordered f (r.told.line ∷ earlier) (seen + 1) k (with_name names r.told.text) (q ∷ ps))
  where
    next : Row → Rows
    next r = rows f (r.told.line ∷ earlier) (seen + 1) (last_after last r.told.line) (is_end r.told.line) (q ∷ ps)

    -- behind a line in order
    step : (r : Row) → Again f earlier seen names (q ∷ ps) r → follows last r.told.line ≡ true → (next r).fault ≡ None → FitsTold r.told → Each FitsTold (next r).told
        → IsRecordFrom (names_after (with_name names r.told.text) (next r).told) last (numbered names r.told ∷ lines_after (with_name names r.told.text) (next r).told)
    step r again go e fits h = one_line names last r.told (next r).told go fits (more (is_end r.told.line) e h) (none (is_end r.told.line) e)
      where
        with_end : Bool → Rows
        with_end b = rows f (r.told.line ∷ earlier) (seen + 1) (last_after last r.told.line) b (q ∷ ps)

        more : (b : Bool) → (with_end b).fault ≡ None → Each FitsTold (with_end b).told → b ≡ false
            → IsRecordFrom (names_after (with_name names r.told.text) (with_end b).told) (last_after last r.told.line) (lines_after (with_name names r.told.text) (with_end b).told)
        more true e h i = absurd (cc)
        more false e h i = again (last_after last r.told.line) e h

        none : (b : Bool) → (with_end b).fault ≡ None → b ≡ true → (with_end b).told ≡ []
        none true e i = none_behind f (r.told.line ∷ earlier) (seen + 1) (last_after last r.told.line) (q ∷ ps) e
        none false e i = absurd (cc)

    on : (r : Row) → Again f earlier seen names (q ∷ ps) r → (b : Bool) → follows last r.told.line ≡ b → (x : Option RecordFault) → AreInOrder names last (placed seen b x (with_told r.told (next r)))
    on r again false i x = λ e h. absurd (cc)
    on r again true i (Some z) = λ e h. absurd (cc)
    on r again true i None = λ e h. step r again i e h.0 h.1

    by : (o : Option Row) → ((r : Row) → Again f earlier seen names (q ∷ ps) r) → AreInOrder names last (by_fault (row_fault earlier seen last false o) (row_then o next))
    by None again = λ e h. absurd (cc)
    by (Some r) again = on r (again r) (follows last r.told.line) refl (ask_fault seen (request_number_of earlier r.told.line) r.ask)

-- the lines of a text without fault, with the table after reading
pub record_readable : (s : Text) (names : List Text) → (record_of s).fault ≡ None → IsRecord (names_after names (record_of s).told) (lines_after names (record_of s).told)
record_readable s names e = by (parts 10 s) e (told_fit s)
  where
    by : (ps : List Text) → AreInOrder names 0 (rows_of ps)
    by [] = ordered form.First [] 0 0 names []
    by (p ∷ []) = ordered form.First [] 0 0 names (p ∷ [])
    by (p ∷ q ∷ ps) = on (bytes_eq p form_text)
      where
        on : (b : Bool) → AreInOrder names 0 (elim b as (λ x. Rows) [ true ↦ rows form.Second [] 1 0 false (q ∷ ps) | false ↦ rows form.First [] 0 0 false (p ∷ q ∷ ps) ])
        on true = ordered form.Second [] 1 0 names (q ∷ ps)
        on false = ordered form.First [] 0 0 names (p ∷ q ∷ ps)
