-- The lines of a text without fault, with the table after reading, are readable. Each is read again as it is.
use Rattle.std.proofs.Common.{◌≡◌, refl, sym, ap, ap₂, subst, ◌∙◌, ℕ, zero, suc, ◌+◌, ◌-◌, ◌*◌, ◌<◌, ◌≤◌, ◌&&◌, ℤ, pos, neg_ℤ, Bool, true, false, nat_eq, nat_le, nat_lt, bytes_eq, codes, decimal, List, [], ◌∷◌, ◌++◌, map, length, take, drop, slice_get, slice_index, slice_range, Option, Some, None, is_none, option_map, arith}
use Rattle.std.specs.Prelude.{IfSome, not}
use Rattle.std.specs.List.{All}
use Rattle.std.proofs.lemmas.Bool.{and_parts, leb-true}
use Rattle.std.proofs.lemmas.Bool.Decides.{nat_tests}
use Rattle.std.proofs.lemmas.Int.{ints}
use Rattle.std.proofs.lemmas.Option.{slice_get_within}
use Rattle.run_types.specs.Table.{is_among, name_of, with_text, text_or_none}
use Rattle.text_scan.specs.Text.{Text, every, is_inner, is_word, lookup}
use Rattle.text_scan.specs.Keywords.{keywords}
use Rattle.run_types.specs.Values.{is_in_range}
use Rattle.run_types.proofs.Laws.{text_at_place, name_of-missing}
use Rattle.run_types.specs.declared.types.NameId.{NameId}
use Rattle.run_types.specs.declared.types.Value.{Value}
use Rattle.run_types.specs.declared.types.Item.{Item}
use Rattle.run_types.specs.declared.types.Item.TheVariants as I
use Rattle.run_types.specs.declared.types.Label.{Label}
use Rattle.run_types.specs.declared.types.Label.TheVariants as L
use Rattle.run_types.specs.declared.types.What.{What}
use Rattle.run_types.specs.declared.types.What.TheVariants as W
use Rattle.run_types.specs.declared.types.WireAct.{WireAct}
use Rattle.run_types.specs.declared.types.WireAct.TheVariants as A
use Rattle.run_types.specs.declared.types.Event.{Event}
use Rattle.run_types.specs.declared.types.Event.TheVariants as E
use Rattle.run_types.specs.declared.types.End.{End}
use Rattle.run_types.specs.declared.types.End.TheVariants as F
use Rattle.run_types.specs.declared.types.Line.{Line}
use Rattle.run_types.specs.declared.types.Line.TheVariants as R
use Rattle.text_scan.specs.declared.spans.Decimal.{Decimal}
use Rattle.text_scan.specs.declared.spans.Decimal.TheVariants.{NotDigits, TooLarge, Value as Spelled}
use Rattle.text_scan.specs.Lines.{decimal_of}
use Rattle.record_writer.specs.RecordText.{joined, text_at}
use Rattle.record_writer.specs.SecondForm.{form_text}
use Rattle.record_writer.specs.Writable.{AreShort, IsShort, IsWritable, id_of_item, id_of_label, id_of_line, id_of_what}
use Rattle.run_types.specs.Asks.{is_asked}
use Rattle.run_types.specs.Tables.{Each}
use Rattle.record_parser.specs.declared.shown.Message.{Message}
use Rattle.record_parser.specs.declared.shown.Message.TheVariants as M
use Rattle.record_parser.specs.Fields.{begins_with, count_of, error_of, fields, halves_of, integer_of, is_name, name_of_word, name_or_integer, negative_of, number_of, object_of, parts, point_from, positive_of, spelled_below, string_of, value_of, values_within}
use Rattle.run_types.specs.Partial.{only_if, ◌>>=◌}
use Rattle.record_parser.specs.Lines.{Told, end_of, end_of_two, ends, event_of, full_of, happened, kind_of, line_of, link_from, link_of, side_of, turn_of, wire_event, wire_from, wire_of}
use Rattle.record_parser.specs.Shown.{Shown, arrive_of, create_of, created_of, delay_of, fault_of, for_more, for_three, for_two, frame_of, item_for, item_of, local_of, making, message_from, message_of, new_of, no_number, of_pair, once, only_count, pick_of, plain, post_of, result_of, return_of, step_of, what_of, write_of}
use Rattle.std.specs.Option.{option_or}
use Rattle.run_record.specs.declared.fault.RecordFault.{RecordFault}
use Rattle.run_record.specs.declared.fault.RecordFault.TheVariants as fault
use Rattle.run_record.specs.declared.parsed_line.RecordVersion.{RecordVersion}
use Rattle.run_record.specs.declared.parsed_line.RecordVersion.TheVariants as form
use Rattle.run_record.specs.Numbered.{line_with, lines_after, names_after, numbered, numbered_by, what_with, with_name}
use Rattle.run_record.specs.Readable.{AreReadableArgs, AreReadableValues, IsCount, IsNamed, IsReadableEnd, IsReadableEvent, IsReadableItem, IsReadableStep, IsReadableValue, IsReadableWhat, IsString}
use Rattle.run_record.specs.Records.{Row, Rows, asked_by, by_fault, is_empty, is_end, last_after, record_of, refused, row_fault, row_of, row_then, rows, rows_of, unasked, unnumbered}

-- what is read where this line was written
abbrev pub told_of : List Text → Line → Told
told_of names l = record { line = line_with no_number l; text = option_map (text_at names) (id_of_line l) }

abbrev pub IsReadableLine : List Text → Line → Type 0
IsReadableLine names (R.Event n e w) = IsReadableEvent e × IsReadableWhat names w
IsReadableLine names (R.End end) = IsReadableEnd end

-- what each part of a reading keeps

module _ {A B : Type 0} (P : B → Type 0) where
  then_all : (o : Option A) (f : A → Option B) → ((a : A) → o ≡ Some a → IfSome (f a) P) → IfSome (o >>= f) P
  then_all None f h = tt
  then_all (Some a) f h = h a refl

module _ {B : Type 0} (P : B → Type 0) where
  only_all : (b : Bool) (o : Option B) → IfSome o P → IfSome (only_if b o) P
  only_all true o h = h
  only_all false o h = tt

  choice_all : (b : Bool) (x y : Option B) → IfSome x P → IfSome y P → IfSome (elim b as (λ z. Option B) [ true ↦ x | false ↦ y ]) P
  choice_all true x y h k = h
  choice_all false x y h k = k

  either_all : (x y : Option B) → IfSome x P → IfSome y P → IfSome (option_or x y) P
  either_all None y h k = k
  either_all (Some x) y h k = h

  two_all : (ws : List Text) (f : Text → Text → Option B) → ((a b : Text) → IfSome (f a b) P) → IfSome (for_two ws f) P
  two_all [] f h = tt
  two_all (a ∷ []) f h = tt
  two_all (a ∷ b ∷ []) f h = h a b
  two_all (a ∷ b ∷ c ∷ ws) f h = tt

  three_all : (ws : List Text) (f : Text → Text → Text → Option B) → ((a b c : Text) → IfSome (f a b c) P) → IfSome (for_three ws f) P
  three_all [] f h = tt
  three_all (a ∷ []) f h = tt
  three_all (a ∷ b ∷ []) f h = tt
  three_all (a ∷ b ∷ c ∷ []) f h = h a b c
  three_all (a ∷ b ∷ c ∷ d ∷ ws) f h = tt

  more_all : (ws : List Text) (f : Text → Text → Text → List Text → Option B) → ((a b c : Text) (vs : List Text) → IfSome (f a b c vs) P) → IfSome (for_more ws f) P
  more_all [] f h = tt
  more_all (a ∷ []) f h = tt
  more_all (a ∷ b ∷ []) f h = tt
  more_all (a ∷ b ∷ c ∷ ws) f h = h a b c ws

some_all : {X : Type 0} (P : X → Type 0) (o : Option X) (x : X) → IfSome o P → o ≡ Some x → P x
some_all P None x h e = absurd (cc)
some_all P (Some y) x h e = let same : y ≡ x = cc in subst P same h

-- words

below : (limit : ℕ) (w : Text) → IfSome (number_of limit w) (λ n. n < limit)
below limit w = by (decimal_of w)
  where
    on : (m : ℕ) (b : Bool) → (nat_lt m limit && bytes_eq (decimal m) w) ≡ b → IfSome (only_if b (Some m)) (λ n. n < limit)
    on m true e = let both = and_parts (nat_lt m limit) (bytes_eq (decimal m) w) e in grind (arith, nat_tests, both.0)
    on m false e = tt

    by : (d : Decimal) → IfSome (spelled_below limit w d) (λ n. n < limit)
    by NotDigits = tt
    by TooLarge = tt
    by (Spelled m) = on m (nat_lt m limit && bytes_eq (decimal m) w) refl

is_below : (limit : ℕ) (w : Text) (n : ℕ) → number_of limit w ≡ Some n → n < limit
is_below limit w n e = some_all (λ k. k < limit) (number_of limit w) n (below limit w) e

count_low : (w : Text) (n : ℕ) → count_of w ≡ Some n → IsCount n
count_low w n e = is_below 4294967296 w n e

abbrev IsPositive : ℕ → Type 0
IsPositive n = (0 < n) × IsCount n

positive_low : (w : Text) (n : ℕ) → positive_of w ≡ Some n → IsPositive n
positive_low w n e = some_all IsPositive (positive_of w) n (then_all IsPositive (count_of w) _ (λ m i. on m (count_low w m i) (nat_lt 0 m) refl)) e
  where
    on : (m : ℕ) → IsCount m → (b : Bool) → nat_lt 0 m ≡ b → IfSome (only_if b (Some m)) IsPositive
    on m h true i = (let some : 0 < m = grind (arith, nat_tests, i) in some, h)
    on m h false i = tt

object_all : (w : Text) → IfSome (object_of w) IsCount
object_all w = then_all IsCount (point_from 0 w) (halves_of w) (λ at e.
    then_all IsCount (number_of 65536 (slice_range w 0 at)) _ (λ node i.
    then_all IsCount (number_of 65536 (slice_range w (at + 1) (length w))) _ (λ slot j.
    small node slot (is_below 65536 (slice_range w 0 at) node i) (is_below 65536 (slice_range w (at + 1) (length w)) slot j))))
  where
    small : (node slot : ℕ) → node < 65536 → slot < 65536 → IsCount (node * 65536 + slot)
    small node slot h i = omega (arith, h, i)

object_low : (w : Text) (o : ℕ) → object_of w ≡ Some o → IsCount o
object_low w o e = some_all IsCount (object_of w) o (object_all w) e

abbrev IsInRange : ℤ → Type 0
IsInRange z = is_in_range z ≡ true

pos_range : (n : ℕ) → n < 9223372036854775808 → IsInRange (pos n)
pos_range n h = grind (arith, ints)

neg_range : (n : ℕ) → n < 9223372036854775808 → IsInRange (neg_ℤ (pos n))
neg_range zero h = refl
neg_range (suc n) h = grind (arith, ints)

negative_all : (w : Text) → IfSome (negative_of w) IsInRange
negative_all w = choice_all IsInRange (bytes_eq w (codes "9223372036854775808")) _ _ refl (then_all IsInRange (number_of 9223372036854775808 w) _ (λ n e.
    only_all IsInRange (nat_lt 0 n) _ (neg_range n (is_below 9223372036854775808 w n e))))

integer_all : (w : Text) → IfSome (integer_of w) IsInRange
integer_all w = choice_all IsInRange (begins_with 45 w) _ _ (negative_all (slice_range w 1 (length w))) (then_all IsInRange (number_of 9223372036854775808 w) _ (λ n e.
    pos_range n (is_below 9223372036854775808 w n e)))

value_all : (w : Text) → IfSome (value_of w) IsReadableValue
value_all w =
    choice_all IsReadableValue (bytes_eq w (codes "true")) _ _ tt
    (choice_all IsReadableValue (bytes_eq w (codes "false")) _ _ tt
    (choice_all IsReadableValue (bytes_eq w (codes "nil")) _ _ tt (by (object_of w) (object_all w))))
  where
    by : (o : Option ℕ) → IfSome o IsCount → IfSome (name_or_integer w o) IsReadableValue
    by None h = then_all IsReadableValue (integer_of w) _ (λ z e. some_all IsInRange (integer_of w) z (integer_all w) e)
    by (Some o) h = h

value_fits : (w : Text) (v : Value) → value_of w ≡ Some v → IsReadableValue v
value_fits w v e = some_all IsReadableValue (value_of w) v (value_all w) e

-- at most so many values
abbrev AreWithin : ℕ → List Value → Type 0
AreWithin n vs = (length vs ≤ n) × AreReadableValues vs

values_all : (n : ℕ) (ws : List Text) → IfSome (values_within n ws) (AreWithin n)
values_all zero [] = (let none : 0 ≤ 0 = omega arith in none, tt)
values_all (suc n) [] = (let none : 0 ≤ suc n = omega arith in none, tt)
values_all zero (w ∷ ws) = tt
values_all (suc n) (w ∷ ws) = by (value_of w) (value_all w) (values_within n ws) (values_all n ws)
  where
    by : (o : Option Value) → IfSome o IsReadableValue → (m : Option (List Value)) → IfSome m (AreWithin n)
        → IfSome (o >>= λ v. m >>= λ vs. Some (v ∷ vs)) (AreWithin (suc n))
    by None h m i = tt
    by (Some v) h None i = tt
    by (Some v) h (Some vs) i = (let size : suc (length vs) ≤ suc n = omega (arith, i.0) in size, (h, i.1))

args_fit : (ws : List Text) (vs : List Value) → values_within 8 ws ≡ Some vs → AreReadableArgs vs
args_fit ws vs e = some_all AreReadableArgs (values_within 8 ws) vs (values_all 8 ws) e

name_fits : (w text : Text) → name_of_word w ≡ Some text → is_name text ≡ true
name_fits w text e = by (is_name w) refl e
  where
    by : (b : Bool) → is_name w ≡ b → only_if b (Some w) ≡ Some text → is_name text ≡ true
    by true i h = let same : w ≡ text = cc in subst (λ (t : Text). is_name t ≡ true) same i
    by false i h = absurd (cc)

abbrev IsInside : Text → Type 0
IsInside t = (length t ≤ 256) × (every is_inner t ≡ true)

string_fits : (w text : Text) → string_of w ≡ Some text → IsInside text
string_fits w text e = by _ refl e
  where
    sizes : Bool
    sizes = nat_le 2 (length w) && nat_le (length w) 258

    quotes : Bool
    quotes = nat_eq (slice_index w 0) 34 && nat_eq (slice_index w (length w - 1)) 34

    inner : Bool
    inner = every is_inner (slice_range w 1 (length w - 1))

    most : (n : ℕ) (xs : Text) → length (take n xs) ≤ n
    most zero xs = omega arith
    most (suc n) [] = omega arith
    most (suc n) (x ∷ xs) = let h = most n xs in omega (arith, h)

    by : (b : Bool) → (sizes && (quotes && inner)) ≡ b → only_if b (Some (slice_range w 1 (length w - 1))) ≡ Some text → IsInside text
    by true i h =
        let both = and_parts sizes (quotes && inner) i in
        let high = leb-true (length w) 258 (and_parts (nat_le 2 (length w)) (nat_le (length w) 258) both.0).1 in
        let same : slice_range w 1 (length w - 1) ≡ text = cc in
        let size = most (length w - 1 - 1) (drop 1 w) in
        let small : length (take (length w - 1 - 1) (drop 1 w)) ≤ 256 = omega (arith, high, size) in
        subst IsInside same (small, (and_parts quotes inner both.1).1)
    by false i h = absurd (cc)

-- the text of a name, if there is one, has this place
abbrev pub IsTextAt : List Text → NameId → Option Text → Type 0
IsTextAt names id None = Unit {0}
IsTextAt names id (Some w) = (id.0 < length names) × (text_at names id ≡ w)

abbrev what_by : NameId → Option Text → What → What
what_by id None w = w
what_by id (Some t) w = what_with id w

abbrev shown_at : List Text → What → Shown
shown_at names w = record { what = what_with no_number w; text = option_map (text_at names) (id_of_what w) }

abbrev shows : What → Option Text → Shown
shows w text = record { what = w; text = text }

-- With the number of its name it is readable, and it is read again as it is.
record FitsShown (s : Shown) : Type 0 where
  readable : (names : List Text) (id : NameId) → IsTextAt names id s.text → IsReadableWhat names (what_by id s.text s.what)
  again : (names : List Text) (id : NameId) → IsTextAt names id s.text → shown_at names (what_by id s.text s.what) ≡ s

-- without a name
plain_fits : (w : What) → ((names : List Text) → IsReadableWhat names w) → what_with no_number w ≡ w → id_of_what w ≡ None → FitsShown (shows w None)
plain_fits w h same none = record { readable = λ names id i. h names; again = λ names id i. ap₂ shows same (ap (option_map (text_at names)) none) }

-- with a name
named_fits : (w : What) (text : Text) → ((names : List Text) (id : NameId) → id.0 < length names → text_at names id ≡ text → IsReadableWhat names (what_with id w))
    → ((id : NameId) → what_with no_number (what_with id w) ≡ w) → ((id : NameId) → id_of_what (what_with id w) ≡ Some id) → FitsShown (shows w (Some text))
named_fits w text h same some = record {
  readable = λ names id i. h names id i.0 i.1;
  again = λ names id i. ap₂ shows (same id) (ap (option_map (text_at names)) (some id) ∙ ap Some i.1);
}

is_named : (names : List Text) (id : NameId) (text : Text) → is_name text ≡ true → id.0 < length names → text_at names id ≡ text → IsNamed names id
is_named names id text h i e = (i, subst (λ (t : Text). is_name t ≡ true) (sym e) h)

is_string : (names : List Text) (id : NameId) (text : Text) → IsInside text → id.0 < length names → text_at names id ≡ text → IsString names id
is_string names id text h i e = let inside = subst IsInside (sym e) h in (i, inside.0, inside.1)

-- two objects
pair_all : (a b : Text) (f : ℕ → ℕ → Option Shown) → ((o p : ℕ) → IsCount o → IsCount p → IfSome (f o p) FitsShown) → IfSome (of_pair a b f) FitsShown
pair_all a b f h = then_all FitsShown (object_of a) _ (λ o e. then_all FitsShown (object_of b) (f o) (λ p i. h o p (object_low a o e) (object_low b p i)))

-- what a line shows

made_fits : (kind : Message) (o p : ℕ) (vs : List Value) (text : Text) → IsCount o → IsCount p → AreReadableArgs vs → is_name text ≡ true → FitsShown (shows (making kind o p vs) (Some text))
made_fits M.Answer o p vs text h i args name =
    named_fits (once (L.Answer o p no_number vs)) text (λ names id j e. ((h, i, is_named names id text name j e, args), refl)) (λ id. refl) (λ id. refl)
made_fits M.Send o p vs text h i args name =
    named_fits (once (L.Send o p no_number vs)) text (λ names id j e. ((h, i, is_named names id text name j e, args), refl)) (λ id. refl) (λ id. refl)
made_fits M.Take o p vs text h i args name =
    named_fits (once (L.Take o p no_number vs)) text (λ names id j e. ((h, i, is_named names id text name j e, args), refl)) (λ id. refl) (λ id. refl)
made_fits M.PostCall o p vs text h i args name =
    named_fits (W.PostCall o p no_number vs) text (λ names id j e. (h, i, is_named names id text name j e, args)) (λ id. refl) (λ id. refl)

message_fits : (kind : Message) (ws : List Text) → IfSome (message_of kind ws) FitsShown
message_fits kind ws = more_all FitsShown ws (message_from kind) (λ a b m args.
    pair_all a b _ (λ o p h i. then_all FitsShown (name_of_word m) _ (λ text e. then_all FitsShown (values_within 8 args) _ (λ vs j.
    made_fits kind o p vs text h i (args_fit args vs j) (name_fits m text e)))))

local_fits : (ws : List Text) → IfSome (local_of ws) FitsShown
local_fits ws = two_all FitsShown ws _ (λ a k. then_all FitsShown (object_of a) _ (λ o e. then_all FitsShown (positive_of k) _ (λ n i.
    plain_fits (W.Step (L.Local o) n) (λ names. (object_low a o e, (positive_low k n i).0, (positive_low k n i).1)) refl refl)))

new_fits : (ws : List Text) → IfSome (new_of ws) FitsShown
new_fits ws = three_all FitsShown ws _ (λ a b c. pair_all a b _ (λ o p h i. then_all FitsShown (name_of_word c) _ (λ text e.
    named_fits (once (L.New o p no_number)) text (λ names id j k. (h, i, is_named names id text (name_fits c text e) j k, refl)) (λ id. refl) (λ id. refl))))

return_fits : (ws : List Text) → IfSome (return_of ws) FitsShown
return_fits ws = three_all FitsShown ws _ (λ a b c. pair_all a b _ (λ p o h i. then_all FitsShown (value_of c) _ (λ v e.
    plain_fits (once (L.Return p o v)) (λ names. (h, i, value_fits c v e, refl)) refl refl)))

item_fits : (o : ℕ) (left : Text) → IsCount o → IfSome (item_of o left) FitsShown
item_fits o left h = choice_all FitsShown (begins_with 34 left) _ _
    (then_all FitsShown (string_of left) _ (λ text e.
    named_fits (once (L.Write o (I.Text no_number))) text (λ names id j k. (h, is_string names id text (string_fits left text e) j k, refl)) (λ id. refl) (λ id. refl)))
    (then_all FitsShown (value_of left) _ (λ v e. plain_fits (once (L.Write o (I.Value v))) (λ names. (h, value_fits left v e, refl)) refl refl))

items_fit : (o : ℕ) (ws : List Text) → IsCount o → IfSome (item_for o ws) FitsShown
items_fit o [] h = tt
items_fit o (b ∷ ws) h = item_fits o (joined (b ∷ ws)) h

write_fits : (ws : List Text) → IfSome (write_of ws) FitsShown
write_fits [] = tt
write_fits (a ∷ ws) = then_all FitsShown (object_of a) _ (λ o e. items_fit o ws (object_low a o e))

pick_fits : (ws : List Text) → IfSome (pick_of ws) FitsShown
pick_fits ws = two_all FitsShown ws _ (λ a k. then_all FitsShown (object_of a) _ (λ o e. then_all FitsShown (positive_of k) _ (λ n i.
    plain_fits (once (L.Pick o n)) (λ names. (object_low a o e, (positive_low k n i).0, (positive_low k n i).1, refl)) refl refl)))

fault_fits : (ws : List Text) → IfSome (fault_of ws) FitsShown
fault_fits ws = two_all FitsShown ws _ (λ a k. then_all FitsShown (object_of a) _ (λ o e. then_all FitsShown (error_of k) _ (λ f i.
    plain_fits (once (L.Fault o f)) (λ names. (object_low a o e, refl)) refl refl)))

create_fits : (ws : List Text) → IfSome (create_of ws) FitsShown
create_fits ws = three_all FitsShown ws _ (λ a c n.
    then_all FitsShown (object_of a) _ (λ o e. then_all FitsShown (name_of_word c) _ (λ text i. then_all FitsShown (count_of n) _ (λ node j.
    named_fits (W.PostCreate o no_number node) text (λ names id k l. (object_low a o e, is_named names id text (name_fits c text i) k l, count_low n node j)) (λ id. refl) (λ id. refl)))))

post_fits : (ws : List Text) → IfSome (post_of ws) FitsShown
post_fits [] = tt
post_fits (w ∷ []) = tt
post_fits (w ∷ v ∷ ws) =
    choice_all FitsShown (bytes_eq w (codes "call")) _ _ (message_fits M.PostCall (v ∷ ws)) (only_all FitsShown (bytes_eq w (codes "create")) _ (create_fits (v ∷ ws)))

arrive_fits : (ws : List Text) → IfSome (arrive_of ws) FitsShown
arrive_fits ws = three_all FitsShown ws _ (λ a b m. pair_all a b _ (λ o p h i. then_all FitsShown (name_of_word m) _ (λ text e.
    named_fits (W.Arrive o p no_number) text (λ names id j k. (h, i, is_named names id text (name_fits m text e) j k)) (λ id. refl) (λ id. refl))))

created_fits : (ws : List Text) → IfSome (created_of ws) FitsShown
created_fits ws = two_all FitsShown ws _ (λ a b. pair_all a b _ (λ o p h i. plain_fits (W.Created o p) (λ names. (h, i)) refl refl))

result_fits : (ws : List Text) → IfSome (result_of ws) FitsShown
result_fits ws = two_all FitsShown ws _ (λ a b. then_all FitsShown (object_of a) _ (λ o e. then_all FitsShown (value_of b) _ (λ v i.
    plain_fits (W.Result o v) (λ names. (object_low a o e, value_fits b v i)) refl refl)))

step_fits : (w : Text) (ws : List Text) → IfSome (step_of w ws) FitsShown
step_fits w ws =
    choice_all FitsShown (bytes_eq w (codes "local")) _ _ (local_fits ws)
    (choice_all FitsShown (bytes_eq w (codes "new")) _ _ (new_fits ws)
    (choice_all FitsShown (bytes_eq w (codes "answer")) _ _ (message_fits M.Answer ws)
    (choice_all FitsShown (bytes_eq w (codes "return")) _ _ (return_fits ws)
    (choice_all FitsShown (bytes_eq w (codes "send")) _ _ (message_fits M.Send ws)
    (choice_all FitsShown (bytes_eq w (codes "take")) _ _ (message_fits M.Take ws)
    (choice_all FitsShown (bytes_eq w (codes "write")) _ _ (write_fits ws)
    (choice_all FitsShown (bytes_eq w (codes "pick")) _ _ (pick_fits ws) (only_all FitsShown (bytes_eq w (codes "fault")) _ (fault_fits ws)))))))))

only_low : (ws : List Text) (n : ℕ) → only_count ws ≡ Some n → IsCount n
only_low [] n e = absurd (cc)
only_low (a ∷ []) n e = count_low a n e
only_low (a ∷ b ∷ ws) n e = absurd (cc)

frame_fits : (w : Text) (ws : List Text) → IfSome (frame_of w ws) FitsShown
frame_fits w ws =
    choice_all FitsShown (bytes_eq w (codes "frame")) _ _ (counted (λ n. W.Frame n) (λ n h. plain_fits (W.Frame n) (λ names. h) refl refl))
    (choice_all FitsShown (bytes_eq w (codes "lost")) _ _ (counted (λ n. W.Lost n) (λ n h. plain_fits (W.Lost n) (λ names. h) refl refl))
    (choice_all FitsShown (bytes_eq w (codes "stale")) _ _ (counted (λ n. W.Stale n) (λ n h. plain_fits (W.Stale n) (λ names. h) refl refl))
    (choice_all FitsShown (bytes_eq w (codes "acked")) _ _ (counted (λ n. W.Acked n) (λ n h. plain_fits (W.Acked n) (λ names. h) refl refl))
    (only_all FitsShown (bytes_eq w (codes "late")) _ (counted (λ n. W.Late n) (λ n h. plain_fits (W.Late n) (λ names. h) refl refl))))))
  where
    counted : (what : ℕ → What) → ((n : ℕ) → IsCount n → FitsShown (shows (what n) None)) → IfSome (only_count ws >>= λ n. plain (what n)) FitsShown
    counted what h = then_all FitsShown (only_count ws) (λ n. plain (what n)) (λ n e. h n (only_low ws n e))

delay_fits : (w : Text) (ws : List Text) → IfSome (delay_of w ws) FitsShown
delay_fits w ws =
    choice_all FitsShown (bytes_eq w (codes "post")) _ _ (post_fits ws)
    (choice_all FitsShown (bytes_eq w (codes "arrive")) _ _ (arrive_fits ws)
    (choice_all FitsShown (bytes_eq w (codes "created")) _ _ (created_fits ws)
    (choice_all FitsShown (bytes_eq w (codes "result")) _ _ (result_fits ws) (frame_fits w ws))))

what_fits : (ws : List Text) → IfSome (what_of ws) FitsShown
what_fits [] = tt
what_fits (w ∷ []) =
    choice_all FitsShown (bytes_eq w (codes "pass")) _ _ (plain_fits W.Pass (λ names. tt) refl refl) (only_all FitsShown (bytes_eq w (codes "idle")) _ (plain_fits W.Idle (λ names. tt) refl refl))
what_fits (w ∷ v ∷ ws) = either_all FitsShown (step_of w (v ∷ ws)) (delay_of w (v ∷ ws)) (step_fits w (v ∷ ws)) (delay_fits w (v ∷ ws))

-- a line

abbrev pub line_by : NameId → Option Text → Line → Line
line_by id None l = l
line_by id (Some t) l = line_with id l

-- With the number of its name the line is readable, and it is read again as it is.
pub record FitsTold (t : Told) : Type 0 where
  pub readable : (names : List Text) (id : NameId) → IsTextAt names id t.text → IsReadableLine names (line_by id t.text t.line)
  pub again : (names : List Text) (id : NameId) → IsTextAt names id t.text → told_of names (line_by id t.text t.line) ≡ t

end_told : (end : End) → IsReadableEnd end → IfSome (ends end) FitsTold
end_told end h = record { readable = λ names id i. h; again = λ names id i. refl }

two_fit : (how k : Text) → IfSome (end_of_two how k) FitsTold
two_fit how k = then_all FitsTold (count_of k) _ (λ n e.
    choice_all FitsTold (bytes_eq how (codes "quiet")) _ _ (end_told (F.Quiet n) tt) (only_all FitsTold (bytes_eq how (codes "schedule")) _ (end_told (F.Schedule n) tt)))

full_fits : (kind node k : Text) → IfSome (full_of kind node k) FitsTold
full_fits kind node k = then_all FitsTold (kind_of kind) _ (λ f e. then_all FitsTold (count_of node) _ (λ n i. then_all FitsTold (count_of k) _ (λ done j.
    end_told (F.Full f n done) (count_low node n i))))

end_fits : (ws : List Text) → IfSome (end_of ws) FitsTold
end_fits [] = tt
end_fits (a ∷ []) = tt
end_fits (a ∷ b ∷ []) = two_fit a b
end_fits (a ∷ b ∷ c ∷ []) = tt
end_fits (a ∷ b ∷ c ∷ d ∷ []) = only_all FitsTold (bytes_eq a (codes "full")) _ (full_fits b c d)
end_fits (a ∷ b ∷ c ∷ d ∷ e ∷ ws) = tt

abbrev tells : ℕ → Event → Shown → Told
tells n e s = record { line = R.Event n e s.what; text = s.text }

shown_told : (n : ℕ) (e : Event) (w : What) (text : Option Text) → IsReadableEvent e → FitsShown (shows w text) → FitsTold (tells n e (shows w text))
shown_told n e w None h i = record { readable = λ names id j. (h, i.readable names id j); again = λ names id j. ap (tells n e) (i.again names id j) }
shown_told n e w (Some text) h i = record { readable = λ names id j. (h, i.readable names id j); again = λ names id j. ap (tells n e) (i.again names id j) }

happened_fits : (n : ℕ) (e : Event) (ws : List Text) → IsReadableEvent e → IfSome (happened n e (what_of ws)) FitsTold
happened_fits n e ws h = by (what_of ws) (what_fits ws)
  where
    by : (o : Option Shown) → IfSome o FitsShown → IfSome (happened n e o) FitsTold
    by None i = tt
    by (Some s) i = shown_told n e s.what s.text h i

turn_fits : (n : ℕ) (ws : List Text) → IfSome (turn_of n ws) FitsTold
turn_fits n [] = tt
turn_fits n (a ∷ ws) = then_all FitsTold (count_of a) _ (λ node e. happened_fits n (E.Turn node) ws (count_low a node e))

from_fits : (n from : ℕ) (ws : List Text) → IsCount from → IfSome (link_from n from ws) FitsTold
from_fits n from [] h = tt
from_fits n from (b ∷ ws) h = then_all FitsTold (count_of b) _ (λ to e. happened_fits n (E.Link from to) ws (h, count_low b to e))

link_fits : (n : ℕ) (ws : List Text) → IfSome (link_of n ws) FitsTold
link_fits n [] = tt
link_fits n (a ∷ ws) = then_all FitsTold (count_of a) _ (λ from e. from_fits n from ws (count_low a from e))

wire_from_fits : (n : ℕ) (act : WireAct) (from : ℕ) (ws : List Text) → IsCount from → IfSome (wire_from n act from ws) FitsTold
wire_from_fits n act from [] h = tt
wire_from_fits n act from (b ∷ ws) h = then_all FitsTold (count_of b) _ (λ to e. happened_fits n (E.Wire act from to) ws (h, count_low b to e))

wire_fits : (n : ℕ) (act : WireAct) (ws : List Text) → IfSome (wire_of n act ws) FitsTold
wire_fits n act [] = tt
wire_fits n act (a ∷ ws) = then_all FitsTold (count_of a) _ (λ from e. wire_from_fits n act from ws (count_low a from e))

side_fits : (n : ℕ) (act other : WireAct) (ws : List Text) → IfSome (side_of n act other ws) FitsTold
side_fits n act other [] = tt
side_fits n act other (w ∷ ws) = choice_all FitsTold (bytes_eq w (codes "ack")) _ _ (wire_fits n other ws) (wire_fits n act (w ∷ ws))

wire_event_fits : (n : ℕ) (w : Text) (ws : List Text) → IfSome (wire_event n w ws) FitsTold
wire_event_fits n w ws =
    choice_all FitsTold (bytes_eq w (codes "send")) _ _ (wire_fits n A.Send ws)
    (choice_all FitsTold (bytes_eq w (codes "ack")) _ _ (wire_fits n A.Ack ws)
    (choice_all FitsTold (bytes_eq w (codes "lose")) _ _ (side_fits n A.Lose A.LoseAck ws)
    (choice_all FitsTold (bytes_eq w (codes "twice")) _ _ (side_fits n A.Twice A.TwiceAck ws) (only_all FitsTold (bytes_eq w (codes "late")) _ (side_fits n A.Late A.LateAck ws)))))

event_fits : (n : ℕ) (ws : List Text) → IfSome (event_of n ws) FitsTold
event_fits n [] = tt
event_fits n (w ∷ ws) =
    choice_all FitsTold (bytes_eq w (codes "turn")) _ _ (turn_fits n ws)
    (choice_all FitsTold (bytes_eq w (codes "link")) _ _ (link_fits n ws) (wire_event_fits n w ws))

line_fits : (ws : List Text) → IfSome (line_of ws) FitsTold
line_fits [] = tt
line_fits (w ∷ ws) = choice_all FitsTold (bytes_eq w (codes "end")) _ _ (end_fits ws) (then_all FitsTold (count_of w) _ (λ n e. event_fits n ws))

-- a line of either form

abbrev FitsRow : Row → Type 0
FitsRow r = FitsTold r.told

row_fits : (f : RecordVersion) (ws : List Text) → IfSome (row_of f ws) FitsRow
row_fits form.First ws = then_all FitsRow (line_of ws) _ (λ t e. some_all FitsTold (line_of ws) t (line_fits ws) e)
row_fits form.Second ws =
    either_all FitsRow (line_of ws >>= unasked) _
    (then_all FitsRow (line_of ws) _ (λ t e. only_all FitsRow (not (is_asked t.line)) (unnumbered t) (some_all FitsTold (line_of ws) t (line_fits ws) e)))
    (then_all FitsRow (asked_by ws) _ (λ r i. then_all FitsRow (line_of r.0) _ (λ t e. only_all FitsRow (is_asked t.line) _ (some_all FitsTold (line_of r.0) t (line_fits r.0) e))))

-- all lines

rows_fit : (f : RecordVersion) (earlier : List Line) (seen last : ℕ) (ended : Bool) (ps : List Text) → Each FitsTold (rows f earlier seen last ended ps).told
rows_fit f earlier seen last ended [] = tt
rows_fit f earlier seen last ended (p ∷ []) = tail (ended && is_empty p)
  where
    tail : (b : Bool) → Each FitsTold (elim b as (λ x. Rows) [ true ↦ record { told = []; fault = None } | false ↦ refused (fault.BadLine (seen + 1)) ]).told
    tail true = tt
    tail false = tt
rows_fit f earlier seen last ended (p ∷ q ∷ ps) =
    by (row_fault earlier seen last ended (row_of f (fields p))) (row_of f (fields p)) (row_fits f (fields p))
    (λ r. rows_fit f (r.told.line ∷ earlier) (seen + 1) (last_after last r.told.line) (is_end r.told.line) (q ∷ ps))
  where
    next : Row → Rows
    next r = rows f (r.told.line ∷ earlier) (seen + 1) (last_after last r.told.line) (is_end r.told.line) (q ∷ ps)

    by : (x : Option RecordFault) (o : Option Row) → IfSome o FitsRow → ((r : Row) → Each FitsTold (next r).told) → Each FitsTold (by_fault x (row_then o next)).told
    by (Some x) o h k = tt
    by None None h k = tt
    by None (Some r) h k = (h, k r)

pub told_fit : (s : Text) → Each FitsTold (record_of s).told
told_fit s = by (parts 10 s)
  where
    by : (ps : List Text) → Each FitsTold (rows_of ps).told
    by [] = rows_fit form.First [] 0 0 false []
    by (p ∷ []) = rows_fit form.First [] 0 0 false (p ∷ [])
    by (p ∷ q ∷ ps) = on (bytes_eq p form_text)
      where
        on : (b : Bool) → Each FitsTold (elim b as (λ x. Rows) [ true ↦ rows form.Second [] 1 0 false (q ∷ ps) | false ↦ rows form.First [] 0 0 false (p ∷ q ∷ ps) ]).told
        on true = rows_fit form.Second [] 1 0 false (q ∷ ps)
        on false = rows_fit form.First [] 0 0 false (p ∷ q ∷ ps)

-- in the table

-- a text of a table is there in a longer one
stays : (names : List Text) (w : Text) (i : ℕ) (x : Text) → slice_get names i ≡ Some x → slice_get (names ++ w ∷ []) i ≡ Some x
stays [] w i x h = absurd (cc)
stays (n ∷ ns) w zero x h = h
stays (n ∷ ns) w (suc i) x h = stays ns w i x h

stays_with : (names : List Text) (o : Option Text) (i : ℕ) (x : Text) → slice_get names i ≡ Some x → slice_get (with_name names o) i ≡ Some x
stays_with names None i x h = h
stays_with names (Some w) i x h = by (is_among names w)
  where
    by : (b : Bool) → slice_get (elim b as (λ x. List Text) [ true ↦ names | false ↦ names ++ w ∷ [] ]) i ≡ Some x
    by true = h
    by false = stays names w i x h

stays_after : (names : List Text) (ts : List Told) (i : ℕ) (x : Text) → slice_get names i ≡ Some x → slice_get (names_after names ts) i ≡ Some x
stays_after names [] i x h = h
stays_after names (t ∷ ts) i x h = stays_after (with_name names t.text) ts i x (stays_with names t.text i x h)

-- a text that was put into the table has its place there
at_end : (names : List Text) (w : Text) → slice_get (names ++ w ∷ []) (length names) ≡ Some w
at_end [] w = refl
at_end (n ∷ ns) w = at_end ns w

placed : (names : List Text) (w : Text) → slice_get (with_text names w) (name_of names w) ≡ Some w
placed names w = by (is_among names w) refl
  where
    by : (b : Bool) → is_among names w ≡ b → slice_get (elim b as (λ x. List Text) [ true ↦ names | false ↦ names ++ w ∷ [] ]) (name_of names w) ≡ Some w
    by true i = text_at_place names w i
    by false i = subst (λ n. slice_get (names ++ w ∷ []) n ≡ Some w) (sym (name_of-missing names w i)) (at_end names w)

-- in this table the line is readable, and is read again as it is
pub record FitsLine (names : List Text) (l : Line) (t : Told) : Type 0 where
  pub readable : IsReadableLine names l
  pub again : told_of names l ≡ t

pub line_there : (names : List Text) (t : Told) (ts : List Told) → FitsTold t → FitsLine (names_after (with_name names t.text) ts) (numbered names t) t
line_there names t ts h = by t.text refl
  where
    all : List Text
    all = names_after (with_name names t.text) ts

    from : (id : NameId) → IsTextAt all id t.text → line_by id t.text t.line ≡ numbered names t → FitsLine all (numbered names t) t
    from id here same = record { readable = subst (IsReadableLine all) same (h.readable all id here); again = ap (told_of all) (sym same) ∙ h.again all id here }

    by : (o : Option Text) → t.text ≡ o → FitsLine all (numbered names t) t
    by None e = from no_number (subst (IsTextAt all no_number) (sym e) tt) (ap (λ o. line_by no_number o t.line) e ∙ sym (ap (λ o. numbered_by names o t.line) e))
    by (Some w) e =
        let id : NameId = record { 0 = name_of names w } in
        let at : slice_get all (name_of names w) ≡ Some w =
        stays_after (with_name names t.text) ts (name_of names w) w (subst (λ (o : Option Text). slice_get (with_name names o) (name_of names w) ≡ Some w) (sym e) (placed names w)) in
        from id (subst (IsTextAt all id) (sym e) (slice_get_within all (name_of names w) w at, ap text_or_none at))
        (ap (λ o. line_by id o t.line) e ∙ sym (ap (λ o. numbered_by names o t.line) e))

told_again : (names : List Text) (ts : List Told) → Each FitsTold ts → map (told_of (names_after names ts)) (lines_after names ts) ≡ ts
told_again names [] h = refl
told_again names (t ∷ ts) h = ap₂ (λ x xs. x ∷ xs) (line_there names t ts h.0).again (told_again (with_name names t.text) ts h.1)

-- the lines of a text are read again as they are
pub record_again : (s : Text) (names : List Text) → map (told_of (names_after names (record_of s).told)) (lines_after names (record_of s).told) ≡ (record_of s).told
record_again s names = told_again names (record_of s).told (told_fit s)

-- a readable line can be written

name_short : (w : Text) → is_name w ≡ true → length w ≤ 256
name_short w h =
    let both = and_parts (is_word w && nat_le (length w) 64) (is_none (lookup keywords w)) h in
    let short = leb-true (length w) 64 (and_parts (is_word w) (nat_le (length w) 64) both.0).1 in
    omega (arith, short)

named_short : (names : List Text) (id : NameId) → IsNamed names id → IsShort names id
named_short names id h = (h.0, name_short (text_at names id) h.1)

item_short : (names : List Text) (item : Item) → IsReadableItem names item → AreShort names (id_of_item item)
item_short names (I.Value v) h = tt
item_short names (I.Text id) h = (h.0, h.1)

label_short : (names : List Text) (label : Label) (times : ℕ) → IsReadableStep names label times → AreShort names (id_of_label label)
label_short names (L.Local o) times h = tt
label_short names (L.New o p c) times h = named_short names c h.2
label_short names (L.Answer p o m args) times h = named_short names m h.0.2
label_short names (L.Return p o v) times h = tt
label_short names (L.Send o p m args) times h = named_short names m h.0.2
label_short names (L.Take p o m args) times h = named_short names m h.0.2
label_short names (L.Write o item) times h = item_short names item h.1
label_short names (L.Pick o i) times h = tt
label_short names (L.Fault o e) times h = tt

pub what_short : (names : List Text) (w : What) → IsReadableWhat names w → AreShort names (id_of_what w)
what_short names (W.Step label times) h = label_short names label times h
what_short names (W.PostCreate o c n) h = named_short names c h.1
what_short names (W.PostCall o p m args) h = named_short names m h.2
what_short names (W.Arrive o p m) h = named_short names m h.2
what_short names (W.Created o p) h = tt
what_short names (W.Result o v) h = tt
what_short names W.Pass h = tt
what_short names W.Idle h = tt
what_short names (W.Frame k) h = tt
what_short names (W.Lost k) h = tt
what_short names (W.Stale k) h = tt
what_short names (W.Acked k) h = tt
what_short names (W.Late k) h = tt

line_short : (names : List Text) (l : Line) → IsReadableLine names l → IsWritable names l
line_short names (R.Event n e w) h = what_short names w h.1
line_short names (R.End end) h = tt

lines_short : (names : List Text) (ts : List Told) → Each FitsTold ts → Each (IsWritable (names_after names ts)) (lines_after names ts)
lines_short names [] h = tt
lines_short names (t ∷ ts) h = (line_short _ _ (line_there names t ts h.0).readable, lines_short (with_name names t.text) ts h.1)

each_all : {X : Type 0} (P : X → Type 0) (xs : List X) → Each P xs → All P xs
each_all P [] h k d l = absurd (omega (arith, l))
each_all P (x ∷ xs) h zero d l = h.0
each_all P (x ∷ xs) h (suc k) d l = each_all P xs h.1 k d (omega (arith, l))

-- the lines of a text, with the table after reading
pub lines_writable : (s : Text) (old new : List Text) (ls : List Line) → ls ≡ lines_after old (record_of s).told → new ≡ names_after old (record_of s).told → All (IsWritable new) ls
lines_writable s old new ls e f =
    subst (λ (ns : List Text). All (IsWritable ns) ls) (sym f)
    (subst (λ (xs : List Line). All (IsWritable (names_after old (record_of s).told)) xs) (sym e)
    (each_all (IsWritable (names_after old (record_of s).told)) (lines_after old (record_of s).told) (lines_short old (record_of s).told (told_fit s))))
