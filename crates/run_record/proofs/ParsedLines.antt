-- The lines of a record, parsed one at a time.
use Rattle.std.proofs.Common.{◌≡◌, refl, sym, ap, append_assoc, append-nil, ◌∙◌, ℕ, ◌+◌, ◌<◌, ◌≤◌, List, [], ◌∷◌, ◌++◌, length, Option, Some, None, Bool, true, false, ◌&&◌, ◌==◌, bytes_eq, arith}
use denote.Bor.{Bor}
use Rattle.std.specs.Prelude.{option_map}
use Rattle.text_scan.specs.Text.{Text}
use Rattle.run_types.specs.declared.types.Line.{Line}
use Rattle.run_types.proofs.Laws.{equal}
use Rattle.record_parser.specs.declared.fields.Front.{Front}
use Rattle.run_record.specs.declared.parsed_line.RecordVersion.{RecordVersion}
use Rattle.run_record.specs.declared.parsed_line.RecordVersion.TheVariants as form
use Rattle.record_writer.specs.SecondForm.{form_text}
use Rattle.record_parser.proofs.Laws.{parts_length}
use Rattle.record_parser.specs.TextParts.{IsCut, parts_left}
use Rattle.run_record.specs.declared.fault.RecordFault.{RecordFault}
use Rattle.run_record.specs.declared.fault.RecordFault.TheVariants as fault
use Rattle.record_parser.specs.Fields.{fields, parts}
use Rattle.run_record.specs.declared.posts.Posts.{Posts}
use Rattle.run_record.specs.Posts.{HasPosts}
use Rattle.run_record.specs.Numbered.{lines_after, names_after, with_name}
use Rattle.run_record.specs.ReaderFacts.{HasFront, IsTable, ReportsFault}
use Rattle.record_parser.specs.Lines.{Told}
use Rattle.run_record.specs.Records.{Row, by_fault, is_empty, is_end, last_after, record_of, refused, row_fault, row_of, row_then, rows, rows_of, Rows, with_told}

-- the text that is left is the line and what stands behind it
pub behind_cut : (t : Text) (f : Front) (left : Bor Text) → IsCut 10 (parts 10 t) f → f.rest ≡ Some left → parts 10 t ≡ f.first.now ∷ parts 10 left.now
behind_cut t f left e is = e ∙ ap (λ r. f.first.now ∷ parts_left 10 (option_map (λ (s : Bor Text). s.now) r)) is

-- a line without fault, and what comes behind it
pub rows_step : (f : RecordVersion) (earlier : List Line) (seen last : ℕ) (ended : Bool) (p : Text) (ps : List Text) (r : Row)
    → 0 < length ps → row_of f (fields p) ≡ Some r → row_fault earlier seen last ended (row_of f (fields p)) ≡ None
    → rows f earlier seen last ended (p ∷ ps) ≡ with_told r.told (rows f (r.told.line ∷ earlier) (seen + 1) (last_after last r.told.line) (is_end r.told.line) ps)
rows_step f earlier seen last ended p [] r h e ok = absurd (omega arith)
rows_step f earlier seen last ended p (q ∷ ps) r h e ok =
    let next = λ (r : Row). rows f (r.told.line ∷ earlier) (seen + 1) (last_after last r.told.line) (is_end r.told.line) (q ∷ ps) in
    ap (λ o. by_fault o (row_then (row_of f (fields p)) next)) ok ∙ ap (λ o. row_then o next) e

-- a line with a fault
pub rows_fault : (f : RecordVersion) (earlier : List Line) (seen last : ℕ) (ended : Bool) (p : Text) (ps : List Text) (x : RecordFault)
    → 0 < length ps → row_fault earlier seen last ended (row_of f (fields p)) ≡ Some x → rows f earlier seen last ended (p ∷ ps) ≡ refused x
rows_fault f earlier seen last ended p [] x h e = absurd (omega arith)
rows_fault f earlier seen last ended p (q ∷ ps) x h e =
    let next = λ (r : Row). rows f (r.told.line ∷ earlier) (seen + 1) (last_after last r.told.line) (is_end r.told.line) (q ∷ ps) in
    ap (λ o. by_fault o (row_then (row_of f (fields p)) next)) e

pub told_is : (f : RecordFault) (o : Option RecordFault) → o ≡ Some f → ReportsFault f o
told_is (fault.BadLine n) o e = e
told_is (fault.OutOfOrder n) o e = e
told_is (fault.WrongAsk n) o e = e
told_is fault.Memory o e = tt

pub table_is : (f : RecordFault) (new old : List Text) (told : List Told) → new ≡ names_after old told → IsTable f new old told
table_is (fault.BadLine n) new old told e = e
table_is (fault.OutOfOrder n) new old told e = e
table_is (fault.WrongAsk n) new old told e = e
table_is fault.Memory new old told e = record { before = told; behind = []; all = append-nil told; table = e }

-- the texts of more lines behind those of others
pub names_append : (names : List Text) (ts more : List Told) → names_after names (ts ++ more) ≡ names_after (names_after names ts) more
names_append names [] more = refl
names_append names (t ∷ ts) more = names_append (with_name names t.text) ts more

-- a front of the lines, and the next one
pub front_more : (old names new : List Text) (t : Told) (left told : List Told) (before : List Told)
    → before ++ t ∷ left ≡ told → names ≡ names_after old before → new ≡ with_name names t.text → HasFront new old told
front_more old names new t left told before all e h =
    record {
      before = before ++ t ∷ [];
      behind = left;
      all = append_assoc before (t ∷ []) left ∙ all;
      table = h ∙ ap (λ ns. with_name ns t.text) e ∙ sym (names_append old before (t ∷ []));
    }

-- the rows behind a first line that tells the form, and those of a text that has none
pub second_rows : (t : Text) (f : Front) (left : Bor Text) → IsCut 10 (parts 10 t) f → f.rest ≡ Some left → bytes_eq f.first.now form_text ≡ true
    → rows form.Second [] 1 0 false (parts 10 left.now) ≡ record_of t
second_rows t f left e is h = sym (ap rows_of (behind_cut t f left e is) ∙ by f.first.now (parts 10 left.now) (parts_length 10 left.now) h)
  where
    by : (p : Text) (ps : List Text) → 0 < length ps → bytes_eq p form_text ≡ true → rows_of (p ∷ ps) ≡ rows form.Second [] 1 0 false ps
    by p [] some h = absurd (omega arith)
    by p (q ∷ qs) some h = ap (λ b. elim b as (λ x. Rows) [ true ↦ rows form.Second [] 1 0 false (q ∷ qs) | false ↦ rows form.First [] 0 0 false (p ∷ q ∷ qs) ]) h

pub first_rows : (t : Text) (f : Front) (left : Bor Text) → IsCut 10 (parts 10 t) f → f.rest ≡ Some left → bytes_eq f.first.now form_text ≡ false
    → rows form.First [] 0 0 false (parts 10 t) ≡ record_of t
first_rows t f left e is h =
    ap (rows form.First [] 0 0 false) (behind_cut t f left e is) ∙ sym (ap rows_of (behind_cut t f left e is) ∙ by f.first.now (parts 10 left.now) (parts_length 10 left.now) h)
  where
    by : (p : Text) (ps : List Text) → 0 < length ps → bytes_eq p form_text ≡ false → rows_of (p ∷ ps) ≡ rows form.First [] 0 0 false (p ∷ ps)
    by p [] some h = absurd (omega arith)
    by p (q ∷ qs) some h = ap (λ b. elim b as (λ x. Rows) [ true ↦ rows form.Second [] 1 0 false (q ∷ qs) | false ↦ rows form.First [] 0 0 false (p ∷ q ∷ qs) ]) h

-- what the lines so far and those that are left say is what all say; the posts are those of the lines so far
pub record AreLeft (bytes : Text) (table : List Text) (f : RecordVersion) (posts : Posts) (seen last : ℕ) (ended : Bool) (text : Text) (names : List Text) (lines : List Line) : Type 0 where
  pub earlier : List Line
  pub posted : HasPosts posts earlier
  pub within : seen + length text ≤ length bytes
  pub low : last ≤ 2000000
  pub few : length names ≤ length table + seen
  pub fault : (rows f earlier seen last ended (parts 10 text)).fault ≡ (record_of bytes).fault
  pub told : lines ++ lines_after names (rows f earlier seen last ended (parts 10 text)).told ≡ lines_after table (record_of bytes).told
  pub table_is : names_after names (rows f earlier seen last ended (parts 10 text)).told ≡ names_after table (record_of bytes).told
  pub before : List Told
  pub all : before ++ (rows f earlier seen last ended (parts 10 text)).told ≡ (record_of bytes).told
  pub so_far : names ≡ names_after table before

-- where nothing is left behind the end, the lines so far are all lines
pub ended_rows : {bytes : Text} {table : List Text} {f : RecordVersion} {posts : Posts} {seen last : ℕ} {ended : Bool} {text : Text} {names : List Text} {lines : List Line} (p : Text)
    → AreLeft bytes table f posts seen last ended text names lines → parts 10 text ≡ p ∷ [] → ended ≡ true → (length p == 0) ≡ true
    → (lines ≡ lines_after table (record_of bytes).told) × (names ≡ names_after table (record_of bytes).told)
ended_rows {bytes} {table} {f} {posts} {seen} {last} {ended} {text} {names} {lines} p i e end empty =
    let none : (rows f i.earlier seen last ended (parts 10 text)).told ≡ [] =
    ap (λ ps. (rows f i.earlier seen last ended ps).told) e
    ∙ ap (λ b. (elim b as (λ x. Rows) [ true ↦ record { told = []; fault = None } | false ↦ refused (fault.BadLine (seen + 1)) ]).told) (ap (λ b. b && is_empty p) end ∙ nothing p empty) in (
      sym (append-nil lines) ∙ ap (λ ts. lines ++ lines_after names ts) (sym none) ∙ i.told,
      ap (names_after names) (sym none) ∙ i.table_is,
    )
  where
    nothing : (p : Text) → (length p == 0) ≡ true → is_empty p ≡ true
    nothing [] h = refl
    nothing (b ∷ bs) h = absurd (let z = equal (length (b ∷ bs)) 0 h in omega (arith, z))

-- what is cut off where no such byte is left
pub last_part : (t : Text) (f : Front) → IsCut 10 (parts 10 t) f → ((left : Bor Text) → f.rest ≡ Some left → ⊥) → parts 10 t ≡ f.first.now ∷ []
last_part t f e none = by f.rest refl
  where
    by : (r : Option (Bor Text)) → f.rest ≡ r → parts 10 t ≡ f.first.now ∷ []
    by None i = e ∙ ap (λ r. f.first.now ∷ parts_left 10 (option_map (λ (s : Bor Text). s.now) r)) i
    by (Some left) i = absurd (none left i)
