-- The lines of a record in the second form are read back with their request numbers.
use Rattle.std.proofs.Common.{◌≡◌, refl, sym, ap, ap₂, subst, ◌∙◌, ℕ, ◌+◌, ◌<◌, ◌≤◌, true, false, not, Bool, codes, List, [], ◌∷◌, ◌++◌, length, map, Option, Some, None, is_some, decimal, if◌then◌else◌, arith, eq-eqb, append-nil, append_assoc}
use Rattle.text_scan.specs.Text.{Text}
use Rattle.run_types.specs.declared.types.NameId.{NameId}
use Rattle.run_types.specs.declared.types.Label.{Label}
use Rattle.run_types.specs.declared.types.Label.TheVariants as L
use Rattle.run_types.specs.declared.types.What.{What}
use Rattle.run_types.specs.declared.types.What.TheVariants as W
use Rattle.run_types.specs.declared.types.Event.{Event}
use Rattle.run_types.specs.declared.types.Event.TheVariants as E
use Rattle.run_types.specs.declared.types.End.TheVariants as F
use Rattle.run_types.specs.declared.types.Line.{Line}
use Rattle.run_types.specs.declared.types.Line.TheVariants as R
use Rattle.run_types.specs.Asks.{request_number_of, asker, asker_of, asks, asks_from, is_asked, latest_post, post_of, is_post_of}
use Rattle.record_writer.specs.RecordText.{event_words, full_text, joined, line_words, object_text, text_at, value_text, what_words}
use Rattle.record_writer.specs.SecondForm.{ask_words, form_text, lines_text2, text2}
use Rattle.run_record.specs.declared.fault.RecordFault.{RecordFault}
use Rattle.run_record.specs.declared.fault.RecordFault.TheVariants as fault
use Rattle.run_record.specs.declared.parsed_line.RecordVersion.TheVariants as form
use Rattle.record_parser.specs.declared.shown.Message.TheVariants as M
use Rattle.record_parser.specs.Fields.{fields, name_of_word, object_of, parts, value_of, values_within}
use Rattle.run_types.specs.Partial.{only_if, ◌>>=◌}
use Rattle.run_record.specs.Numbered.{line_with, what_with}
use Rattle.record_parser.specs.Lines.{happened, line_of}
use Rattle.run_record.specs.Records.{Row, ask_fault, asked_by, asked_for, done_of, follows, record_of, row_fault, rows, rows_of, second_of, unasked, with_told}
use Rattle.record_parser.specs.Shown.{Shown, created_of, for_more, for_three, for_two, message_from, message_of, new_of, no_number, of_pair, result_of, return_of, what_of}
use Rattle.std.specs.Option.{option_or}
use Rattle.record_parser.proofs.Laws.{parts_joint, parts_length, what_more}
use Rattle.run_record.proofs.ReadIsReadable.{IsReadableLine, told_of}
use Rattle.run_record.proofs.RequestSuffix.{asked_words}
use Rattle.run_record.specs.Readable.{IsRecord, IsRecordFrom}
use Rattle.run_record.proofs.WordSplit.{AreDark, AreShown, dark_fields, fields_append, fields_joined, fields_of, shown_append, shown_words}
use Rattle.run_record.proofs.DecimalRoundTrip.{count_read, decimal_dark}
use Rattle.run_record.proofs.LineRoundTrip.{IsReadAs, event_fields, event_follows, event_read, in_order, line_back, number_first, number_of, row_read, whole}

-- a line without the number of its name answers the request that it answers with it

same_label : (e : Event) (l : Label) (id : NameId) → asker_of e (what_with id (W.Step l 1)) ≡ asker_of e (W.Step l 1)
same_label e (L.Local o) id = refl
same_label e (L.New o p c) id = refl
same_label e (L.Answer p o m args) id = refl
same_label e (L.Return p o v) id = refl
same_label e (L.Send o p m args) id = refl
same_label e (L.Take p o m args) id = refl
same_label e (L.Write o item) id = refl
same_label e (L.Pick o i) id = refl
same_label e (L.Fault o f) id = refl

same_asker : (l : Line) (id : NameId) → asker (line_with id l) ≡ asker l
same_asker (R.End end) id = refl
same_asker (R.Event n e (W.Step label times)) id = same_label e label id
same_asker (R.Event n e (W.PostCreate o c k)) id = refl
same_asker (R.Event n e (W.PostCall o p m args)) id = refl
same_asker (R.Event n e (W.Arrive o p m)) id = refl
same_asker (R.Event n e (W.Created o p)) id = refl
same_asker (R.Event n e (W.Result o v)) id = refl
same_asker (R.Event n e W.Pass) id = refl
same_asker (R.Event n e W.Idle) id = refl
same_asker (R.Event n e (W.Frame k)) id = refl
same_asker (R.Event n e (W.Lost k)) id = refl
same_asker (R.Event n e (W.Stale k)) id = refl
same_asker (R.Event n e (W.Acked k)) id = refl
same_asker (R.Event n e (W.Late k)) id = refl

same_post : (o : ℕ) (w : What) (id : NameId) → is_post_of o (what_with id w) ≡ is_post_of o w
same_post o (W.Step label times) id = refl
same_post o (W.PostCreate k c n) id = refl
same_post o (W.PostCall k p m args) id = refl
same_post o (W.Arrive k p m) id = refl
same_post o (W.Created k p) id = refl
same_post o (W.Result k v) id = refl
same_post o W.Pass id = refl
same_post o W.Idle id = refl
same_post o (W.Frame k) id = refl
same_post o (W.Lost k) id = refl
same_post o (W.Stale k) id = refl
same_post o (W.Acked k) id = refl
same_post o (W.Late k) id = refl

-- lines without the numbers of their names
abbrev unnamed : List Line → List Line
unnamed ls = map (line_with no_number) ls

same_latest : (o : ℕ) (ls : List Line) → latest_post o (unnamed ls) ≡ latest_post o ls
same_latest o [] = refl
same_latest o (R.Event n e w ∷ ls) = ap₂ (λ (b : Bool) k. if b then n else k) (same_post o w no_number) (same_latest o ls)
same_latest o (R.End end ∷ ls) = same_latest o ls

same_ask : (ls : List Line) (l : Line) → request_number_of (unnamed ls) (line_with no_number l) ≡ request_number_of ls l
same_ask ls l = ap (post_of (unnamed ls)) (same_asker l no_number) ∙ by (asker l)
  where
    by : (o : Option ℕ) → post_of (unnamed ls) o ≡ post_of ls o
    by None = refl
    by (Some o) = same_latest o ls

same_asked : (l : Line) → is_asked (line_with no_number l) ≡ is_asked l
same_asked l = ap is_some (same_asker l no_number)

-- the numbers of lines are in range, and so is each request number
abbrev AreLow : List Line → Type 0
AreLow [] = Unit {0}
AreLow (l ∷ ls) = (number_of l ≤ 2000000) × AreLow ls

latest_low : (o : ℕ) (ls : List Line) → AreLow ls → latest_post o ls ≤ 2000000
latest_low o [] h = omega arith
latest_low o (R.Event n e w ∷ ls) h = by (is_post_of o w) (latest_low o ls h.1)
  where
    by : (b : Bool) → latest_post o ls ≤ 2000000 → (if b then n else latest_post o ls) ≤ 2000000
    by true k = h.0
    by false k = k
latest_low o (R.End end ∷ ls) h = latest_low o ls h.1

ask_low : (ls : List Line) (l : Line) → AreLow ls → request_number_of ls l ≤ 2000000
ask_low ls l h = by (asker l)
  where
    by : (o : Option ℕ) → post_of ls o ≤ 2000000
    by None = omega arith
    by (Some o) = latest_low o ls h

-- a line that answers a request is none without a number

-- of an event that shows this, if it has a form
abbrev Asked : ℕ → Event → Option Shown → Type 0
Asked k e o = (happened k e o >>= unasked) ≡ None

asked_then : {A : Type 0} (k : ℕ) (e : Event) (o : Option A) (f : A → Option Shown) → ((a : A) → Asked k e (f a)) → Asked k e (o >>= f)
asked_then k e None f h = refl
asked_then k e (Some a) f h = h a

asked_pair : (k : ℕ) (e : Event) (a b : Text) (f : ℕ → ℕ → Option Shown) → ((o p : ℕ) → Asked k e (f o p)) → Asked k e (of_pair a b f)
asked_pair k e a b f h = asked_then k e (object_of a) (λ o. object_of b >>= λ p. f o p) (λ o. asked_then k e (object_of b) (λ p. f o p) (λ p. h o p))

asked_three : (k : ℕ) (e : Event) (ws : List Text) (f : Text → Text → Text → Option Shown) → ((a b c : Text) → Asked k e (f a b c)) → Asked k e (for_three ws f)
asked_three k e [] f h = refl
asked_three k e (a ∷ []) f h = refl
asked_three k e (a ∷ b ∷ []) f h = refl
asked_three k e (a ∷ b ∷ c ∷ []) f h = h a b c
asked_three k e (a ∷ b ∷ c ∷ d ∷ ws) f h = refl

asked_two : (k : ℕ) (e : Event) (ws : List Text) (f : Text → Text → Option Shown) → ((a b : Text) → Asked k e (f a b)) → Asked k e (for_two ws f)
asked_two k e [] f h = refl
asked_two k e (a ∷ []) f h = refl
asked_two k e (a ∷ b ∷ []) f h = h a b
asked_two k e (a ∷ b ∷ c ∷ ws) f h = refl

asked_more : (k : ℕ) (e : Event) (ws : List Text) (f : Text → Text → Text → List Text → Option Shown) → ((a b c : Text) (vs : List Text) → Asked k e (f a b c vs)) → Asked k e (for_more ws f)
asked_more k e [] f h = refl
asked_more k e (a ∷ []) f h = refl
asked_more k e (a ∷ b ∷ []) f h = refl
asked_more k e (a ∷ b ∷ c ∷ ws) f h = h a b c ws

-- either of a form and nothing
asked_either : (k : ℕ) (e : Event) (o : Option Shown) → Asked k e o → Asked k e (option_or o None)
asked_either k e None h = refl
asked_either k e (Some s) h = h

answer_asked : (k : ℕ) (e : Event) (ws : List Text) → Asked k e (message_of M.Answer ws)
answer_asked k e ws = asked_more k e ws (message_from M.Answer) (λ a b c vs.
    asked_pair k e a b _ (λ o p. asked_then k e (name_of_word c) _ (λ text. asked_then k e (values_within 8 vs) _ (λ args. refl))))

new_asked : (k a b : ℕ) (ws : List Text) → Asked k (E.Link a b) (new_of ws)
new_asked k a b ws = asked_three k (E.Link a b) ws _ (λ x y z. asked_pair k (E.Link a b) x y _ (λ o p. asked_then k (E.Link a b) (name_of_word z) _ (λ text. refl)))

return_asked : (k : ℕ) (e : Event) (ws : List Text) → Asked k e (return_of ws)
return_asked k e ws = asked_three k e ws _ (λ a b c. asked_pair k e a b _ (λ o p. asked_then k e (value_of c) _ (λ v. refl)))

created_asked : (k : ℕ) (e : Event) (ws : List Text) → Asked k e (created_of ws)
created_asked k e ws = asked_two k e ws _ (λ a b. asked_pair k e a b _ (λ o p. refl))

result_asked : (k : ℕ) (e : Event) (ws : List Text) → Asked k e (result_of ws)
result_asked k e ws = asked_two k e ws _ (λ a b. asked_then k e (object_of a) _ (λ o. asked_then k e (value_of b) _ (λ v. refl)))

-- a line with ` by` and its number behind it

-- the number, if there is one, with the words before it
abbrev with_words : List Text → Option ℕ → Option (List Text × ℕ)
with_words ps o = o >>= λ n. Some (ps, n)

-- something stands behind any words
behind : (ps ts : List Text) → 0 < length ts → 0 < length (ps ++ ts)
behind [] ts h = h
behind (p ∷ ps) ts h = omega arith

-- the words behind a line that carries a number
abbrev tail : ℕ → List Text
tail ask = codes "by" ∷ decimal ask ∷ []

tail_dark : (ask : ℕ) → ask ≤ 2000000 → AreDark (tail ask)
tail_dark ask low = (refl, (decimal_dark ask (omega arith), tt))

tail_fields : (v : Text) (vs ts : List Text) → AreDark ts → fields (joined ((v ∷ vs) ++ ts)) ≡ fields (joined (v ∷ vs)) ++ ts
tail_fields v vs ts dark =
    fields_joined v (vs ++ ts) ∙ (fields_append (v ∷ vs) ts ∙ ap₂ (λ ps qs. ps ++ qs) (sym (fields_joined v vs)) (dark_fields ts dark))

-- what is shown with words behind it, where it answers a request
shown_asked : (names : List Text) (k : ℕ) (e : Event) (w : What) (ts : List Text) → 0 < length ts → is_some (asker_of e w) ≡ true → Asked k e (what_of (fields_of (what_words names w) ++ ts))
shown_asked names k (E.Turn node) (W.Step (L.New o p c) times) ts some h = absurd (cc)
shown_asked names k (E.Wire act a b) (W.Step (L.New o p c) times) ts some h = absurd (cc)
shown_asked names k (E.Link a b) (W.Step (L.New o p c) times) ts some h =
    let ps = fields_of (object_text o ∷ object_text p ∷ text_at names c ∷ []) ++ ts in
    ap (λ z. happened k (E.Link a b) z >>= unasked) (what_more (codes "new") ps (behind (fields_of (object_text o ∷ object_text p ∷ text_at names c ∷ [])) ts some))
    ∙ asked_either k (E.Link a b) (new_of ps) (new_asked k a b ps)
shown_asked names k e (W.Step (L.Answer p o m args) times) ts some h =
    let ps = fields_of (object_text p ∷ object_text o ∷ text_at names m ∷ map value_text args) ++ ts in
    ap (λ z. happened k e z >>= unasked) (what_more (codes "answer") ps (behind (fields_of (object_text p ∷ object_text o ∷ text_at names m ∷ map value_text args)) ts some))
    ∙ asked_either k e (message_of M.Answer ps) (answer_asked k e ps)
shown_asked names k e (W.Step (L.Return p o v) times) ts some h =
    let ps = fields_of (object_text p ∷ object_text o ∷ value_text v ∷ []) ++ ts in
    ap (λ z. happened k e z >>= unasked) (what_more (codes "return") ps (behind (fields_of (object_text p ∷ object_text o ∷ value_text v ∷ [])) ts some))
    ∙ asked_either k e (return_of ps) (return_asked k e ps)
shown_asked names k e (W.Step (L.Local o) times) ts some h = absurd (cc)
shown_asked names k e (W.Step (L.Send o b m args) times) ts some h = absurd (cc)
shown_asked names k e (W.Step (L.Take b s m args) times) ts some h = absurd (cc)
shown_asked names k e (W.Step (L.Write o item) times) ts some h = absurd (cc)
shown_asked names k e (W.Step (L.Pick o i) times) ts some h = absurd (cc)
shown_asked names k e (W.Step (L.Fault o f) times) ts some h = absurd (cc)
shown_asked names k e (W.PostCreate o c n) ts some h = absurd (cc)
shown_asked names k e (W.PostCall o p m args) ts some h = absurd (cc)
shown_asked names k e (W.Arrive o p m) ts some h = absurd (cc)
shown_asked names k e (W.Created o p) ts some h =
    let ps = fields_of (object_text o ∷ object_text p ∷ []) ++ ts in
    ap (λ z. happened k e z >>= unasked) (what_more (codes "created") ps (behind (fields_of (object_text o ∷ object_text p ∷ [])) ts some)) ∙ created_asked k e ps
shown_asked names k e (W.Result o v) ts some h =
    let ps = fields_of (object_text o ∷ value_text v ∷ []) ++ ts in
    ap (λ z. happened k e z >>= unasked) (what_more (codes "result") ps (behind (fields_of (object_text o ∷ value_text v ∷ [])) ts some)) ∙ result_asked k e ps
shown_asked names k e W.Pass ts some h = absurd (cc)
shown_asked names k e W.Idle ts some h = absurd (cc)
shown_asked names k e (W.Frame n) ts some h = absurd (cc)
shown_asked names k e (W.Lost n) ts some h = absurd (cc)
shown_asked names k e (W.Stale n) ts some h = absurd (cc)
shown_asked names k e (W.Acked n) ts some h = absurd (cc)
shown_asked names k e (W.Late n) ts some h = absurd (cc)

-- the row of a line that was written with this number
abbrev row_with : List Text → Line → ℕ → Row
row_with names l ask = record { told = told_of names l; ask = if is_asked l then Some ask else None }

-- such a line is read
second_read : (names : List Text) (l : Line) (ask : ℕ) → number_of l < 4294967296 → ask ≤ 2000000 → IsReadableLine names l
    → AreShown (line_words names l ++ ask_words (is_asked l) ask) × (second_of (fields (joined (line_words names l ++ ask_words (is_asked l) ask))) ≡ Some (row_with names l ask))
second_read names l ask small low h = by (is_asked l) refl
  where
    read : IsReadAs (line_words names l) (told_of names l)
    read = line_back names l small h

    told_asked : is_asked (told_of names l).line ≡ is_asked l
    told_asked = same_asked l

    -- the words of the line, and those behind it
    behind_line : (ts : List Text) → AreDark ts → fields (joined (line_words names l ++ ts)) ≡ fields (joined (line_words names l)) ++ ts
    behind_line ts dark = on l
      where
        on : (l : Line) → fields (joined (line_words names l ++ ts)) ≡ fields (joined (line_words names l)) ++ ts
        on (R.Event n e w) = tail_fields (decimal n) (event_words e ++ what_words names w) ts dark
        on (R.End (F.Quiet done)) = tail_fields (codes "end") (codes "quiet" ∷ decimal done ∷ []) ts dark
        on (R.End (F.Schedule done)) = tail_fields (codes "end") (codes "schedule" ∷ decimal done ∷ []) ts dark
        on (R.End (F.Full kind node done)) = tail_fields (codes "end") (codes "full" ∷ full_text kind ∷ decimal node ∷ decimal done ∷ []) ts dark

    not_alone : is_asked l ≡ true → (line_of (fields (joined (line_words names l ++ tail ask))) >>= unasked) ≡ None
    not_alone i = ap (λ ps. line_of ps >>= unasked) (behind_line (tail ask) (tail_dark ask low)) ∙ on l small h i
      where
        on : (l : Line) → number_of l < 4294967296 → IsReadableLine names l → is_asked l ≡ true → (line_of (fields (joined (line_words names l)) ++ tail ask) >>= unasked) ≡ None
        on (R.End end) s r i = absurd (cc)
        on (R.Event n e w) s r i =
            ap (λ ps. line_of (ps ++ tail ask) >>= unasked) (event_fields names n e w s r.0)
            ∙ (ap (λ ps. line_of (decimal n ∷ ps) >>= unasked) (append_assoc (event_words e) (fields_of (what_words names w)) (tail ask))
            ∙ (ap (λ o. o >>= unasked) (number_first n (event_words e ++ (fields_of (what_words names w) ++ tail ask)) s ∙ event_read n e (fields_of (what_words names w) ++ tail ask) r.0)
            ∙ shown_asked names n e w (tail ask) (omega arith) i))

    carried : asked_by (fields (joined (line_words names l ++ tail ask))) ≡ Some (fields (joined (line_words names l)), ask)
    carried =
        ap asked_by (behind_line (tail ask) (tail_dark ask low))
        ∙ (asked_words (fields (joined (line_words names l))) (codes "by") (decimal ask) (parts_length 32 (joined (line_words names l)))
        ∙ ap (λ o. with_words (fields (joined (line_words names l))) o) (count_read ask (omega arith)))

    by : (b : Bool) → is_asked l ≡ b → AreShown (line_words names l ++ ask_words b ask) × (second_of (fields (joined (line_words names l ++ ask_words b ask))) ≡ Some (record { told = told_of names l; ask = if b then Some ask else None }))
    by false i = (
      subst AreShown (sym (append-nil (line_words names l))) read.shown,
      ap (λ ws. second_of (fields (joined ws))) (append-nil (line_words names l))
          ∙ (ap (λ o. option_or (o >>= unasked) (asked_by (fields (joined (line_words names l))) >>= λ r. line_of r.0 >>= asked_for r.1)) read.read
          ∙ ap (λ t. option_or (only_if (not t) (Some (record { told = told_of names l; ask = None }))) (asked_by (fields (joined (line_words names l))) >>= λ r. line_of r.0 >>= asked_for r.1)) (told_asked ∙ i)),
    )
    by true i = (
      shown_append (line_words names l) (tail ask) read.shown (shown_words (tail ask) (tail_dark ask low)),
      ap (λ o. option_or o (asked_by (fields (joined (line_words names l ++ tail ask))) >>= λ r. line_of r.0 >>= asked_for r.1)) (not_alone i)
          ∙ (ap (λ (o : Option (List Text × ℕ)). o >>= λ r. line_of r.0 >>= asked_for r.1) carried
          ∙ (ap (λ o. o >>= asked_for ask) read.read ∙ ap (λ t. only_if t (Some (record { told = told_of names l; ask = Some ask }))) (told_asked ∙ i))),
    )

-- a line with its own number behind lines with theirs has no fault
second_fault : (names : List Text) (earlier : List Line) (seen last : ℕ) (l : Line) → follows last (told_of names l).line ≡ true
    → row_fault (unnamed earlier) seen last false (Some (row_with names l (request_number_of earlier l))) ≡ None
second_fault names earlier seen last l next =
    ap₂ option_or (in_order seen last (told_of names l).line next) (ap (λ n. ask_fault seen n (if is_asked l then Some (request_number_of earlier l) else None)) (same_ask earlier l) ∙ by (is_asked l) (request_number_of earlier l))
  where
    by : (b : Bool) (n : ℕ) → ask_fault seen n (if b then Some n else None) ≡ None
    by false n = refl
    by true n = ap (λ t. elim t as (λ x. Option RecordFault) [ true ↦ None | false ↦ Some (fault.WrongAsk (seen + 1)) ]) (eq-eqb n n refl)

-- the rows of the lines that are left
second_rows : (names : List Text) (earlier : List Line) (seen last : ℕ) (ls : List Line) → AreLow earlier → last ≤ 2000000 → IsRecordFrom names last ls
    → rows form.Second (unnamed earlier) seen last false (parts 10 (lines_text2 names ls (asks_from earlier ls))) ≡ whole (map (told_of names) ls)
second_rows names earlier seen last [] low small h = absurd h
second_rows names earlier seen last (R.Event n e w ∷ ls) low small h =
    let l = R.Event n e w in
    let ask = request_number_of earlier l in
    let read = second_read names l ask (omega (arith, h.1)) (ask_low earlier l low) (h.2, h.3) in
    row_read form.Second (unnamed earlier) seen last (line_words names l ++ ask_words (is_asked l) ask) (row_with names l ask) (lines_text2 names ls (asks_from (l ∷ earlier) ls)) read.0 read.1
    (second_fault names earlier seen last l (event_follows n last e (what_with no_number w) h.0 h.1))
    ∙ ap (with_told (told_of names l)) (second_rows names (l ∷ earlier) (seen + 1) n ls (h.1, low) h.1 h.4)
second_rows names earlier seen last (R.End end ∷ []) low small h =
    let l = R.End end in
    let ask = request_number_of earlier l in
    let read = second_read names l ask (omega (arith, h.0)) (ask_low earlier l low) h.1 in
    row_read form.Second (unnamed earlier) seen last (line_words names l ++ ask_words (is_asked l) ask) (row_with names l ask) [] read.0 read.1
    (second_fault names earlier seen last l (eq-eqb (done_of end) last h.0))
second_rows names earlier seen last (R.End end ∷ l ∷ ls) low small h = absurd h

-- the text of a record in the second form
pub text2_read : (names : List Text) (ls : List Line) → IsRecord names ls → record_of (text2 names ls) ≡ whole (map (told_of names) ls)
text2_read names ls h =
    ap rows_of (parts_joint 10 form_text (lines_text2 names ls (asks ls)))
    ∙ (behind_first (parts 10 (lines_text2 names ls (asks ls))) (parts_length 10 (lines_text2 names ls (asks ls))) ∙ second_rows names [] 1 0 ls tt (omega arith) h)
  where
    behind_first : (ps : List Text) → 0 < length ps → rows_of (parts 10 form_text ++ ps) ≡ rows form.Second [] 1 0 false ps
    behind_first [] some = absurd (omega arith)
    behind_first (p ∷ ps) some = refl
