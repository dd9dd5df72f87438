-- The lines of a record are read back, one after another.
use Rattle.std.proofs.Common.{◌≡◌, refl, sym, ap, ◌∙◌, ℕ, ◌+◌, ◌<◌, ◌≤◌, true, false, not, nat_eq, nat_le, bytes_eq, codes, List, [], ◌∷◌, ◌++◌, length, map, Option, Some, None, decimal, arith, eq-eqb, le-leb}
use Rattle.std.proofs.lemmas.Bool.{and_from, and_parts}
use Rattle.std.proofs.lemmas.Bool.Decides.{nat_tests}
use Rattle.std.proofs.lemmas.Fmt.{decimal_nonempty}
use Rattle.text_scan.specs.Text.{Text, every, is_digit}
use Rattle.run_types.specs.declared.types.FullKind.{FullKind}
use Rattle.run_types.specs.declared.types.FullKind.TheVariants as full
use Rattle.run_types.specs.declared.types.What.{What}
use Rattle.run_types.specs.declared.types.WireAct.{WireAct}
use Rattle.run_types.specs.declared.types.WireAct.TheVariants as A
use Rattle.run_types.specs.declared.types.Event.{Event}
use Rattle.run_types.specs.declared.types.Event.TheVariants as E
use Rattle.run_types.specs.declared.types.End.{End}
use Rattle.run_types.specs.declared.types.End.TheVariants as F
use Rattle.run_types.specs.declared.types.Line.{Line}
use Rattle.run_types.specs.declared.types.Line.TheVariants as R
use Rattle.run_record.specs.declared.fault.RecordFault.{RecordFault}
use Rattle.run_record.specs.declared.fault.RecordFault.TheVariants as fault
use Rattle.run_record.specs.declared.parsed_line.RecordVersion.{RecordVersion}
use Rattle.run_record.specs.declared.parsed_line.RecordVersion.TheVariants as form
use Rattle.record_writer.specs.SecondForm.{form_text}
use Rattle.record_writer.specs.RecordText.{event_words, full_text, joined, led, line_text, line_words, what_words}
use Rattle.record_writer.specs.RecordText.{record_text}
use Rattle.record_parser.specs.Fields.{begins_with, count_of, fields, parts}
use Rattle.run_types.specs.Partial.{◌>>=◌}
use Rattle.run_record.specs.Numbered.{what_with}
use Rattle.record_parser.specs.Lines.{Told, end_of, event_of, full_of, ends, happened, kind_of, line_of, link_from, side_of, wire_from, wire_of}
use Rattle.run_record.specs.Records.{Row, Rows, order_fault, record_of, row_of, rows_of, unnumbered, done_of, follows, is_end, last_after, row_fault, rows, with_told}
use Rattle.record_parser.specs.Shown.{no_number, what_of}
use Rattle.std.specs.Option.{option_or}
use Rattle.record_parser.proofs.Laws.{parts_length}
use Rattle.run_record.proofs.ReadIsReadable.{IsReadableLine, told_of}
use Rattle.run_record.proofs.ParsedLines.{rows_step}
use Rattle.run_record.specs.Readable.{IsCount, IsReadableEnd, IsReadableEvent, IsReadableWhat, IsRecord, IsRecordFrom}
use Rattle.run_record.proofs.WordSplit.{AreDark, AreShown, dark_field, dark_fields, fields_append, fields_joined, fields_of, is_dark, line_part, shown_append, shown_word, shown_words}
use Rattle.run_record.proofs.DecimalRoundTrip.{count_read, decimal_dark, decimal_digits, differs}
use Rattle.run_record.proofs.ShownRoundTrip.{what_read}

-- events

-- the words of an event have no spaces
event_dark : (e : Event) → IsReadableEvent e → AreDark (event_words e)
event_dark (E.Turn node) h = (refl, (decimal_dark node (omega arith), tt))
event_dark (E.Link from to) h = (refl, (decimal_dark from (omega (arith, h.0)), (decimal_dark to (omega (arith, h.1)), tt)))
event_dark (E.Wire A.Send from to) h = (refl, (decimal_dark from (omega (arith, h.0)), (decimal_dark to (omega (arith, h.1)), tt)))
event_dark (E.Wire A.Ack from to) h = (refl, (decimal_dark from (omega (arith, h.0)), (decimal_dark to (omega (arith, h.1)), tt)))
event_dark (E.Wire A.Lose from to) h = (refl, (decimal_dark from (omega (arith, h.0)), (decimal_dark to (omega (arith, h.1)), tt)))
event_dark (E.Wire A.Twice from to) h = (refl, (decimal_dark from (omega (arith, h.0)), (decimal_dark to (omega (arith, h.1)), tt)))
event_dark (E.Wire A.Late from to) h = (refl, (decimal_dark from (omega (arith, h.0)), (decimal_dark to (omega (arith, h.1)), tt)))
event_dark (E.Wire A.LoseAck from to) h = (refl, (refl, (decimal_dark from (omega (arith, h.0)), (decimal_dark to (omega (arith, h.1)), tt))))
event_dark (E.Wire A.TwiceAck from to) h = (refl, (refl, (decimal_dark from (omega (arith, h.0)), (decimal_dark to (omega (arith, h.1)), tt))))
event_dark (E.Wire A.LateAck from to) h = (refl, (refl, (decimal_dark from (omega (arith, h.0)), (decimal_dark to (omega (arith, h.1)), tt))))

-- what happens on a wire
wire_ends : (n : ℕ) (act : WireAct) (from to : ℕ) (ps : List Text) → IsCount from → IsCount to → wire_of n act (decimal from ∷ decimal to ∷ ps) ≡ happened n (E.Wire act from to) (what_of ps)
wire_ends n act from to ps h k =
    ap (λ a. a >>= λ f. wire_from n act f (decimal to ∷ ps)) (count_read from h)
    ∙ ap (λ a. a >>= λ t. happened n (E.Wire act from t) (what_of ps)) (count_read to k)

-- a number is not the word `ack`
wire_side : (n : ℕ) (act other : WireAct) (from to : ℕ) (ps : List Text) → IsCount from → IsCount to → side_of n act other (decimal from ∷ decimal to ∷ ps) ≡ happened n (E.Wire act from to) (what_of ps)
wire_side n act other from to ps h k =
    ap (λ q. elim q as (λ x. Option Told) [ true ↦ wire_of n other (decimal to ∷ ps) | false ↦ wire_of n act (decimal from ∷ decimal to ∷ ps) ]) (differs (every is_digit) (decimal from) (codes "ack") (decimal_digits from (omega (arith, h))) refl)
    ∙ wire_ends n act from to ps h k

-- behind an event's words stands what is shown
pub event_read : (n : ℕ) (e : Event) (ps : List Text) → IsReadableEvent e → event_of n (event_words e ++ ps) ≡ happened n e (what_of ps)
event_read n (E.Turn node) ps h = ap (λ a. a >>= λ k. happened n (E.Turn k) (what_of ps)) (count_read node h)
event_read n (E.Link from to) ps h =
    ap (λ a. a >>= λ k. link_from n k (decimal to ∷ ps)) (count_read from h.0)
    ∙ ap (λ a. a >>= λ k. happened n (E.Link from k) (what_of ps)) (count_read to h.1)
event_read n (E.Wire A.Send from to) ps h = wire_ends n A.Send from to ps h.0 h.1
event_read n (E.Wire A.Ack from to) ps h = wire_ends n A.Ack from to ps h.0 h.1
event_read n (E.Wire A.LoseAck from to) ps h = wire_ends n A.LoseAck from to ps h.0 h.1
event_read n (E.Wire A.TwiceAck from to) ps h = wire_ends n A.TwiceAck from to ps h.0 h.1
event_read n (E.Wire A.LateAck from to) ps h = wire_ends n A.LateAck from to ps h.0 h.1
event_read n (E.Wire A.Lose from to) ps h = wire_side n A.Lose A.LoseAck from to ps h.0 h.1
event_read n (E.Wire A.Twice from to) ps h = wire_side n A.Twice A.TwiceAck from to ps h.0 h.1
event_read n (E.Wire A.Late from to) ps h = wire_side n A.Late A.LateAck from to ps h.0 h.1

-- a line that begins with a number is an event
pub number_first : (n : ℕ) (ps : List Text) → n < 4294967296 → line_of (decimal n ∷ ps) ≡ event_of n ps
number_first n ps small =
    ap (λ q. elim q as (λ x. Option Told) [ true ↦ end_of ps | false ↦ count_of (decimal n) >>= λ k. event_of k ps ]) (differs (every is_digit) (decimal n) (codes "end") (decimal_digits n (omega arith)) refl)
    ∙ ap (λ a. a >>= λ k. event_of k ps) (count_read n small)

-- the fields of an event's line: its number, its words, and those of what it shows
pub event_fields : (names : List Text) (n : ℕ) (e : Event) (w : What) → n < 4294967296 → IsReadableEvent e → fields (joined (line_words names (R.Event n e w))) ≡ decimal n ∷ (event_words e ++ fields_of (what_words names w))
event_fields names n e w small h =
    fields_joined (decimal n) (event_words e ++ what_words names w)
    ∙ (ap (λ ps. ps ++ fields_of (event_words e ++ what_words names w)) (dark_field (decimal n) (decimal_dark n (omega arith)))
    ∙ ap (λ ps. decimal n ∷ ps) (fields_append (event_words e) (what_words names w) ∙ ap (λ ps. ps ++ fields_of (what_words names w)) (dark_fields (event_words e) (event_dark e h))))

-- the number of an event, or of all events at the end
abbrev pub number_of : Line → ℕ
number_of (R.Event n e w) = n
number_of (R.End end) = done_of end

-- These words have no bytes below the space, and a line of them is read as this.
pub record IsReadAs (ws : List Text) (t : Told) : Type 0 where
  pub shown : AreShown ws
  pub read : line_of (fields (joined ws)) ≡ Some t

-- the line of an event is read
event_line : (names : List Text) (n : ℕ) (e : Event) (w : What) → n < 4294967296 → IsReadableEvent e → IsReadableWhat names w → IsReadAs (line_words names (R.Event n e w)) (told_of names (R.Event n e w))
event_line names n e w small h given =
    let what = what_read names w given in
    record {
      shown = (shown_word (decimal n) (decimal_dark n (omega arith)), shown_append (event_words e) (what_words names w) (shown_words (event_words e) (event_dark e h)) what.shown);
      read =
          ap line_of (event_fields names n e w small h)
          ∙ (number_first n (event_words e ++ fields_of (what_words names w)) small
          ∙ (event_read n e (fields_of (what_words names w)) h ∙ ap (happened n e) what.read));
    }

-- the end

-- the word for what is full has no space
kind_dark : (kind : FullKind) → every is_dark (full_text kind) ≡ true
kind_dark full.Heap = refl
kind_dark full.Frames = refl
kind_dark full.Cells = refl

-- and is read
kind_read : (kind : FullKind) → kind_of (full_text kind) ≡ Some kind
kind_read full.Heap = refl
kind_read full.Frames = refl
kind_read full.Cells = refl

-- words that begin with `end`
end_line : (ws : List Text) (t : Told) → AreDark ws → end_of ws ≡ Some t → IsReadAs (codes "end" ∷ ws) t
end_line ws t h e = record {
  shown = (refl, shown_words ws h);
  read = ap line_of (fields_joined (codes "end") ws ∙ ap (λ ps. codes "end" ∷ ps) (dark_fields ws h)) ∙ e;
}

-- an end where a node is full
full_read : (kind : FullKind) (node done : ℕ) → node < 4294967296 → done < 4294967296 → full_of (full_text kind) (decimal node) (decimal done) ≡ ends (F.Full kind node done)
full_read kind node done h k =
    ap (λ a. a >>= λ f. count_of (decimal node) >>= λ n. count_of (decimal done) >>= λ m. ends (F.Full f n m)) (kind_read kind)
    ∙ (ap (λ a. a >>= λ n. count_of (decimal done) >>= λ m. ends (F.Full kind n m)) (count_read node h)
    ∙ ap (λ a. a >>= λ m. ends (F.Full kind node m)) (count_read done k))

-- the line of the end is read
last_line : (names : List Text) (end : End) → done_of end < 4294967296 → IsReadableEnd end → IsReadAs (line_words names (R.End end)) (told_of names (R.End end))
last_line names (F.Quiet done) small h =
    end_line (codes "quiet" ∷ decimal done ∷ []) _ (refl, (decimal_dark done (omega arith), tt)) (ap (λ a. a >>= λ n. ends (F.Quiet n)) (count_read done small))
last_line names (F.Schedule done) small h =
    end_line (codes "schedule" ∷ decimal done ∷ []) _ (refl, (decimal_dark done (omega arith), tt)) (ap (λ a. a >>= λ n. ends (F.Schedule n)) (count_read done small))
last_line names (F.Full kind node done) small h =
    end_line (codes "full" ∷ full_text kind ∷ decimal node ∷ decimal done ∷ []) _
    (refl, (kind_dark kind, (decimal_dark node (omega arith), (decimal_dark done (omega arith), tt))))
    (full_read kind node done h small)

-- each line of a record is read
pub line_back : (names : List Text) (l : Line) → number_of l < 4294967296 → IsReadableLine names l → IsReadAs (line_words names l) (told_of names l)
line_back names (R.Event n e w) small h = event_line names n e w small h.0 h.1
line_back names (R.End end) small h = last_line names end small h

-- rows

-- a line that is read and stands in order is the first row
pub row_read : (f : RecordVersion) (earlier : List Line) (seen last : ℕ) (ws : List Text) (r : Row) (rest : Text) → AreShown ws → row_of f (fields (joined ws)) ≡ Some r → row_fault earlier seen last false (Some r) ≡ None
    → rows f earlier seen last false (parts 10 ((joined ws ++ 10 ∷ []) ++ rest)) ≡ with_told r.told (rows f (r.told.line ∷ earlier) (seen + 1) (last_after last r.told.line) (is_end r.told.line) (parts 10 rest))
row_read f earlier seen last ws r rest shown as_read next =
    ap (rows f earlier seen last false) (line_part ws rest shown)
    ∙ rows_step f earlier seen last false (joined ws) (parts 10 rest) r (parts_length 10 rest) as_read (ap (row_fault earlier seen last false) as_read ∙ next)

-- a line in order
pub in_order : (seen last : ℕ) (l : Line) → follows last l ≡ true → order_fault seen last false l ≡ None
in_order seen last l next = ap (λ q. elim q as (λ x. Option RecordFault) [ true ↦ None | false ↦ Some (fault.OutOfOrder (seen + 1)) ]) next

-- the rows without fault
abbrev pub whole : List Told → Rows
whole ts = record { told = ts; fault = None }

pub event_follows : (n last : ℕ) (e : Event) (w : What) → n ≡ last + 1 → n ≤ 2000000 → follows last (R.Event n e w) ≡ true
event_follows n last e w h k = and_from (nat_eq n (last + 1)) (nat_le n 2000000) (eq-eqb n (last + 1) h) (le-leb n 2000000 k)

-- a line in the first form
first_read : (names : List Text) (l : Line) → IsReadAs (line_words names l) (told_of names l) → row_of form.First (fields (joined (line_words names l))) ≡ Some (record { told = told_of names l; ask = None })
first_read names l h = ap (λ o. o >>= unnumbered) h.read

first_fault : (names : List Text) (earlier : List Line) (seen last : ℕ) (l : Line) → follows last (told_of names l).line ≡ true → row_fault earlier seen last false (Some (record { told = told_of names l; ask = None })) ≡ None
first_fault names earlier seen last l h = ap (λ o. option_or o None) (in_order seen last (told_of names l).line h)

-- the rows of a record are its lines, and there is no fault
pub rows_read : (names : List Text) (earlier : List Line) (seen last : ℕ) (ls : List Line) → last ≤ 2000000 → IsRecordFrom names last ls
    → rows form.First earlier seen last false (parts 10 (record_text names ls)) ≡ whole (map (told_of names) ls)
rows_read names earlier seen last [] low h = absurd h
rows_read names earlier seen last (R.Event n e w ∷ ls) low h =
    let read = event_line names n e w (omega (arith, h.1)) h.2 h.3 in
    row_read form.First earlier seen last (line_words names (R.Event n e w)) (record { told = told_of names (R.Event n e w); ask = None }) (record_text names ls) read.shown
    (first_read names (R.Event n e w) read) (first_fault names earlier seen last (R.Event n e w) (event_follows n last e (what_with no_number w) h.0 h.1))
    ∙ ap (with_told (told_of names (R.Event n e w))) (rows_read names ((told_of names (R.Event n e w)).line ∷ earlier) (seen + 1) n ls h.1 h.4)
rows_read names earlier seen last (R.End end ∷ []) low h =
    let read = last_line names end (omega (arith, h.0)) h.1 in
    row_read form.First earlier seen last (line_words names (R.End end)) (record { told = told_of names (R.End end); ask = None }) [] read.shown
    (first_read names (R.End end) read) (first_fault names earlier seen last (R.End end) (eq-eqb (done_of end) last h.0))
rows_read names earlier seen last (R.End end ∷ l ∷ ls) low h = absurd h

-- the first line of the first form is no line that tells the form

not_r : (w t : Text) → 0 < length w → every is_digit w ≡ true → not (begins_with 114 (w ++ t)) ≡ true
not_r [] t some h = absurd (omega arith)
not_r (b ∷ bs) t some h = let both = and_parts (is_digit b) (every is_digit bs) h in grind (arith, nat_tests, both.0)

other_first : (names : List Text) (l : Line) → number_of l < 4294967296 → not (begins_with 114 (joined (line_words names l))) ≡ true
other_first names (R.Event n e w) small = not_r (decimal n) (led (event_words e ++ what_words names w)) (decimal_nonempty n (omega arith)) (decimal_digits n (omega arith))
other_first names (R.End (F.Quiet done)) small = refl
other_first names (R.End (F.Schedule done)) small = refl
other_first names (R.End (F.Full kind node done)) small = refl

first_rows : (p : Text) (ps : List Text) → 0 < length ps → bytes_eq p form_text ≡ false → rows_of (p ∷ ps) ≡ rows form.First [] 0 0 false (p ∷ ps)
first_rows p [] some h = absurd (omega arith)
first_rows p (q ∷ ps) some h = ap (λ b. elim b as (λ x. Rows) [ true ↦ rows form.Second [] 1 0 false (q ∷ ps) | false ↦ rows form.First [] 0 0 false (p ∷ q ∷ ps) ]) h

of_first : (names : List Text) (l : Line) (rest : Text) → number_of l < 4294967296 → IsReadableLine names l → record_of (line_text names l ++ rest) ≡ rows form.First [] 0 0 false (parts 10 (line_text names l ++ rest))
of_first names l rest small h =
    let cut = line_part (line_words names l) rest (line_back names l small h).shown in
    ap rows_of cut
    ∙ (first_rows (joined (line_words names l)) (parts 10 rest) (parts_length 10 rest) (differs (λ t. not (begins_with 114 t)) (joined (line_words names l)) form_text (other_first names l small) refl)
    ∙ ap (rows form.First [] 0 0 false) (sym cut))

-- the text of a record in the first form
pub text_read : (names : List Text) (ls : List Line) → IsRecord names ls → record_of (record_text names ls) ≡ whole (map (told_of names) ls)
text_read names [] h = absurd h
text_read names (R.Event n e w ∷ ls) h =
    of_first names (R.Event n e w) (record_text names ls) (omega (arith, h.1)) (h.2, h.3) ∙ rows_read names [] 0 0 (R.Event n e w ∷ ls) (omega arith) h
text_read names (R.End end ∷ []) h = of_first names (R.End end) [] (omega (arith, h.0)) h.1 ∙ rows_read names [] 0 0 (R.End end ∷ []) (omega arith) h
text_read names (R.End end ∷ l ∷ ls) h = absurd h
