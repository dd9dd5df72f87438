-- The text of each name is found in the table under its number, and the table stays the same.
use Rattle.std.proofs.Common.{◌≡◌, refl, ap, ◌∙◌, ℕ, zero, suc, ◌<◌, Bool, true, false, not, ◌||◌, bytes_eq, List, [], ◌∷◌, ◌++◌, map, length, slice_get, Option, Some, None, option_map, arith}
use Rattle.std.proofs.lemmas.Bool.{and_parts, not-true, or_right}
use Rattle.std.proofs.lemmas.Slice.Eq.{bytes_eq-Decides}
use Rattle.run_types.specs.Table.{is_among, is_distinct, name_of, text_or_none}
use Rattle.text_scan.specs.Text.{Text}
use Rattle.run_types.specs.declared.types.NameId.{NameId}
use Rattle.run_types.specs.declared.types.Item.{Item}
use Rattle.run_types.specs.declared.types.Item.TheVariants as I
use Rattle.run_types.specs.declared.types.Label.{Label}
use Rattle.run_types.specs.declared.types.Label.TheVariants as L
use Rattle.run_types.specs.declared.types.What.{What}
use Rattle.run_types.specs.declared.types.What.TheVariants as W
use Rattle.run_types.specs.declared.types.Event.{Event}
use Rattle.run_types.specs.declared.types.Line.{Line}
use Rattle.run_types.specs.declared.types.Line.TheVariants as R
use Rattle.record_writer.specs.RecordText.{text_at}
use Rattle.record_writer.specs.Writable.{AreShort, id_of_item, id_of_label, id_of_line, id_of_what}
use Rattle.run_record.specs.Numbered.{line_with, lines_after, names_after, numbered, numbered_by, with_name}
use Rattle.record_parser.specs.Shown.{no_number}
use Rattle.run_record.specs.Readable.{IsReadableWhat, IsRecordFrom}
use Rattle.run_record.proofs.ReadIsReadable.{told_of, what_short}

-- the table

-- the text of a place of the table is in the table
is_there : (names : List Text) (i : ℕ) → i < length names → is_among names (text_or_none (slice_get names i)) ≡ true
is_there [] i h = absurd (omega arith)
is_there (x ∷ xs) zero h = ap (λ q. q || is_among xs x) ((bytes_eq-Decides x x).1 refl)
is_there (x ∷ xs) (suc i) h = or_right (bytes_eq x (text_or_none (slice_get xs i))) _ (is_there xs i (omega arith))

-- a text that stands later in a table of distinct texts is another
differs_later : (x w : Text) (xs : List Text) → is_among xs x ≡ false → is_among xs w ≡ true → bytes_eq x w ≡ false
differs_later x w xs new there = by (bytes_eq x w) refl
  where
    by : (q : Bool) → bytes_eq x w ≡ q → q ≡ false
    by true e = absurd (let same = ap (is_among xs) ((bytes_eq-Decides x w).0 e) in cc)
    by false e = refl

-- the text of a place of a table of distinct texts has that place
place_again : (names : List Text) (i : ℕ) → is_distinct names ≡ true → i < length names → name_of names (text_or_none (slice_get names i)) ≡ i
place_again [] i d h = absurd (omega arith)
place_again (x ∷ xs) zero d h = ap (λ q. elim q as (λ b. ℕ) [ true ↦ 0 | false ↦ suc (name_of xs x) ]) ((bytes_eq-Decides x x).1 refl)
place_again (x ∷ xs) (suc i) d h =
    let both = and_parts (not (is_among xs x)) (is_distinct xs) d in
    let w = text_or_none (slice_get xs i) in
    ap (λ q. elim q as (λ b. ℕ) [ true ↦ 0 | false ↦ suc (name_of xs w) ]) (differs_later x w xs (not-true (is_among xs x) both.0) (is_there xs i (omega arith)))
    ∙ ap suc (place_again xs i both.1 (omega arith))

-- a number of the table, if there is one
abbrev pub IsPlaced : List Text → Option NameId → Type 0
IsPlaced names None = Unit {0}
IsPlaced names (Some id) = id.0 < length names

-- putting the text of a place into the table changes nothing
names_stay : (names : List Text) (o : Option NameId) → IsPlaced names o → with_name names (option_map (text_at names) o) ≡ names
names_stay names None h = refl
names_stay names (Some id) h = ap (λ q. elim q as (λ b. List Text) [ true ↦ names | false ↦ names ++ text_at names id ∷ [] ]) (is_there names id.0 h)

-- the names of readable lines

-- a name that can be written has a place
short_placed : (names : List Text) (o : Option NameId) → AreShort names o → IsPlaced names o
short_placed names None h = tt
short_placed names (Some id) h = h.0

what_placed : (names : List Text) (w : What) → IsReadableWhat names w → IsPlaced names (id_of_what w)
what_placed names w h = short_placed names (id_of_what w) (what_short names w h)

-- the text's number, put into a line with a name, gives the line

-- a line with a name, in whose place 0 was put, is the line again with the number of the text
name_back : (names : List Text) (id : NameId) (line : NameId → Line) → ((other : NameId) → line_with other (line no_number) ≡ line other) → is_distinct names ≡ true → id.0 < length names
    → numbered_by names (Some (text_at names id)) (line no_number) ≡ line id
name_back names id line again d h =
    again (record { 0 = name_of names (text_at names id) }) ∙ ap (λ n. line (record { 0 = n })) (place_again names id.0 d h)

-- A line that was written has its number again.
abbrev IsBack : List Text → Line → Type 0
IsBack names l = numbered names (told_of names l) ≡ l

-- what is written
item_back : (names : List Text) (n : ℕ) (e : Event) (o times : ℕ) (item : Item) → is_distinct names ≡ true → IsPlaced names (id_of_item item) → IsBack names (R.Event n e (W.Step (L.Write o item) times))
item_back names n e o times (I.Value v) d h = refl
item_back names n e o times (I.Text id) d h = name_back names id (λ k. R.Event n e (W.Step (L.Write o (I.Text k)) times)) (λ k. refl) d h

-- a transition
label_back : (names : List Text) (n : ℕ) (e : Event) (label : Label) (times : ℕ) → is_distinct names ≡ true → IsPlaced names (id_of_label label) → IsBack names (R.Event n e (W.Step label times))
label_back names n e (L.Local o) times d h = refl
label_back names n e (L.New o p c) times d h = name_back names c (λ k. R.Event n e (W.Step (L.New o p k) times)) (λ k. refl) d h
label_back names n e (L.Answer p o m args) times d h = name_back names m (λ k. R.Event n e (W.Step (L.Answer p o k args) times)) (λ k. refl) d h
label_back names n e (L.Return p o v) times d h = refl
label_back names n e (L.Send o p m args) times d h = name_back names m (λ k. R.Event n e (W.Step (L.Send o p k args) times)) (λ k. refl) d h
label_back names n e (L.Take p o m args) times d h = name_back names m (λ k. R.Event n e (W.Step (L.Take p o k args) times)) (λ k. refl) d h
label_back names n e (L.Write o item) times d h = item_back names n e o times item d h
label_back names n e (L.Pick o i) times d h = refl
label_back names n e (L.Fault o f) times d h = refl

-- what an event shows
what_back : (names : List Text) (n : ℕ) (e : Event) (w : What) → is_distinct names ≡ true → IsPlaced names (id_of_what w) → IsBack names (R.Event n e w)
what_back names n e (W.Step label times) d h = label_back names n e label times d h
what_back names n e (W.PostCreate o c node) d h = name_back names c (λ k. R.Event n e (W.PostCreate o k node)) (λ k. refl) d h
what_back names n e (W.PostCall o p m args) d h = name_back names m (λ k. R.Event n e (W.PostCall o p k args)) (λ k. refl) d h
what_back names n e (W.Arrive o p m) d h = name_back names m (λ k. R.Event n e (W.Arrive o p k)) (λ k. refl) d h
what_back names n e (W.Created o p) d h = refl
what_back names n e (W.Result o v) d h = refl
what_back names n e W.Pass d h = refl
what_back names n e W.Idle d h = refl
what_back names n e (W.Frame k) d h = refl
what_back names n e (W.Lost k) d h = refl
what_back names n e (W.Stale k) d h = refl
what_back names n e (W.Acked k) d h = refl
what_back names n e (W.Late k) d h = refl

-- lines whose names have places in the table
abbrev pub ArePlaced : List Text → List Line → Type 0
ArePlaced names [] = Unit {0}
ArePlaced names (l ∷ ls) = IsPlaced names (id_of_line l) × ArePlaced names ls

-- the names of a record have places
pub record_placed : (names : List Text) (last : ℕ) (ls : List Line) → IsRecordFrom names last ls → ArePlaced names ls
record_placed names last [] h = tt
record_placed names last (R.Event n e w ∷ ls) h = (what_placed names w h.3, record_placed names n ls h.4)
record_placed names last (R.End end ∷ []) h = (tt, tt)
record_placed names last (R.End end ∷ l ∷ ls) h = absurd h

-- a line
line_back : (names : List Text) (l : Line) → is_distinct names ≡ true → IsPlaced names (id_of_line l) → IsBack names l
line_back names (R.Event n e w) d h = what_back names n e w d h
line_back names (R.End end) d h = refl

-- the table stays as it was
pub names_back : (names : List Text) (ls : List Line) → ArePlaced names ls → names_after names (map (told_of names) ls) ≡ names
names_back names [] h = refl
names_back names (l ∷ ls) h = ap (λ after. names_after after (map (told_of names) ls)) (names_stay names (id_of_line l) h.0) ∙ names_back names ls h.1

-- and the lines are those that were written
pub lines_back : (names : List Text) (ls : List Line) → is_distinct names ≡ true → ArePlaced names ls → lines_after names (map (told_of names) ls) ≡ ls
lines_back names [] d h = refl
lines_back names (l ∷ ls) d h =
    ap (λ first. first ∷ lines_after (with_name names (option_map (text_at names) (id_of_line l))) (map (told_of names) ls)) (line_back names l d h.0)
    ∙ ap (λ rest. l ∷ rest) (ap (λ after. lines_after after (map (told_of names) ls)) (names_stay names (id_of_line l) h.0) ∙ lines_back names ls d h.1)
