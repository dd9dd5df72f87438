-- The content of a line is read back, with the text of its name instead of the number.
use Rattle.std.proofs.Common.{◌≡◌, refl, sym, ap, ◌∙◌, ℕ, ◌<◌, append-nil, true, false, codes, List, [], ◌∷◌, ◌++◌, map, Option, Some, None, option_map, decimal, arith}
use Rattle.text_scan.specs.Text.{Text, every}
use Rattle.run_types.specs.declared.types.NameId.{NameId}
use Rattle.run_types.specs.declared.types.Value.{Value}
use Rattle.run_types.specs.declared.types.Item.{Item}
use Rattle.run_types.specs.declared.types.Item.TheVariants as I
use Rattle.run_types.specs.declared.types.Label.{Label}
use Rattle.run_types.specs.declared.types.Label.TheVariants as L
use Rattle.run_types.specs.declared.types.What.{What}
use Rattle.run_types.specs.declared.types.What.TheVariants as W
use Rattle.record_parser.specs.declared.shown.Message.{Message}
use Rattle.record_parser.specs.declared.shown.Message.TheVariants as M
use Rattle.record_writer.specs.RecordText.{error_text, item_text, label_words, object_text, text_at, value_text, what_words}
use Rattle.record_writer.specs.Writable.{id_of_what}
use Rattle.record_parser.specs.Fields.{count_of, error_of, fields, name_of_word, object_of, positive_of, string_of, value_of, values_within}
use Rattle.run_types.specs.Partial.{◌>>=◌}
use Rattle.run_record.specs.Numbered.{what_with}
use Rattle.run_types.specs.declared.types.Error.{Error}
use Rattle.record_parser.specs.Shown.{Shown, delay_of, item_of, making, message_of, named, no_number, of_pair, once, plain, step_of, what_of}
use Rattle.std.specs.Option.{option_or}
use Rattle.record_parser.proofs.Laws.{write_rest}
use Rattle.run_record.specs.Readable.{IsCount, IsNamed, IsReadableItem, IsReadableMessage, IsReadableStep, IsReadableValue, IsReadableWhat}
use Rattle.run_record.proofs.WordSplit.{AreDark, AreShown, dark_field, dark_fields, fields_of, is_shown, shown_word, shown_words}
use Rattle.run_record.proofs.DecimalRoundTrip.{count_read, decimal_dark, positive_read}
use Rattle.run_record.proofs.ObjectNameRoundTrip.{object_dark, object_read}
use Rattle.run_record.proofs.ValueRoundTrip.{error_dark, error_read, value_dark, value_no_string, value_read, values_dark, values_read}
use Rattle.run_record.proofs.TextRoundTrip.{name_dark, name_read, string_read, string_shown}

-- what is read where a line shows this
abbrev pub shown_of : List Text → What → Shown
shown_of names w = record { what = what_with no_number w; text = option_map (text_at names) (id_of_what w) }

-- two objects
pair_read : {A : Type 0} (o p : ℕ) (f : ℕ → ℕ → Option A) → IsCount o → IsCount p → of_pair (object_text o) (object_text p) f ≡ f o p
pair_read o p f h k =
    ap (λ a. a >>= λ x. object_of (object_text p) >>= λ y. f x y) (object_read o h)
    ∙ ap (λ b. b >>= λ y. f o y) (object_read p k)

-- one object
object_then : {A : Type 0} (o : ℕ) (f : ℕ → Option A) → IsCount o → (object_of (object_text o) >>= f) ≡ f o
object_then o f h = ap (λ a. a >>= f) (object_read o h)

-- a name
name_then : {A : Type 0} (names : List Text) (id : NameId) (f : Text → Option A) → IsNamed names id → (name_of_word (text_at names id) >>= f) ≡ f (text_at names id)
name_then names id f h = ap (λ a. a >>= f) (name_read (text_at names id) h.1)

-- a value
value_then : {A : Type 0} (v : Value) (f : Value → Option A) → IsReadableValue v → (value_of (value_text v) >>= f) ≡ f v
value_then v f h = ap (λ a. a >>= f) (value_read v h)

-- a message of each kind
message_read : (kind : Message) (names : List Text) (o p : ℕ) (m : NameId) (args : List Value) → IsReadableMessage names o p m args
    → message_of kind (object_text o ∷ object_text p ∷ text_at names m ∷ map value_text args) ≡ named (making kind o p args) (text_at names m)
message_read kind names o p m args h =
    pair_read o p (λ x y. name_of_word (text_at names m) >>= λ text. values_within 8 (map value_text args) >>= λ vs. named (making kind x y vs) text) h.0 h.1
    ∙ (name_then names m (λ text. values_within 8 (map value_text args) >>= λ vs. named (making kind o p vs) text) h.2
    ∙ ap (λ a. a >>= λ vs. named (making kind o p vs) (text_at names m)) (values_read 8 args h.3.0 h.3.1))

-- its words have no spaces
message_dark : (names : List Text) (o p : ℕ) (m : NameId) (args : List Value) → IsReadableMessage names o p m args
    → AreDark (object_text o ∷ object_text p ∷ text_at names m ∷ map value_text args)
message_dark names o p m args h = (object_dark o h.0, (object_dark p h.1, (name_dark (text_at names m) h.2.1, values_dark args h.3.1)))

-- These words have no bytes below the space, and their fields are read as this.
pub record AreRead (ws : List Text) (s : Shown) : Type 0 where
  pub shown : AreShown ws
  pub read : what_of (fields_of ws) ≡ Some s

-- words without spaces are their own fields
by_words : (ws : List Text) (s : Shown) → AreDark ws → what_of ws ≡ Some s → AreRead ws s
by_words ws s h e = record { shown = shown_words ws h; read = ap what_of (dark_fields ws h) ∙ e }

-- a transition goes by its first word
by_step : (w v : Text) (ws : List Text) (s : Shown) → step_of w (v ∷ ws) ≡ Some s → what_of (w ∷ v ∷ ws) ≡ Some s
by_step w v ws s e = ap (λ a. option_or a (delay_of w (v ∷ ws))) e

-- a transition that is made once
once_read : (names : List Text) (label : Label) (times : ℕ) → times ≡ 1
    → AreRead (label_words names label 1) (shown_of names (W.Step label 1))
    → AreRead (label_words names label 1) (shown_of names (W.Step label times))
once_read names label times e h = record { shown = h.shown; read = h.read ∙ ap (λ n. Some (shown_of names (W.Step label n))) (sym e) }

-- local transitions, with their number
local_read : (names : List Text) (o times : ℕ) → IsReadableStep names (L.Local o) times → AreRead (label_words names (L.Local o) times) (shown_of names (W.Step (L.Local o) times))
local_read names o times h =
    by_words (label_words names (L.Local o) times) _ (refl, (object_dark o h.0, (decimal_dark times (omega (arith, h.2)), tt)))
    (by_step (codes "local") (object_text o) (decimal times ∷ []) _
    (object_then o (λ x. positive_of (decimal times) >>= λ n. plain (W.Step (L.Local x) n)) h.0
    ∙ ap (λ a. a >>= λ n. plain (W.Step (L.Local o) n)) (positive_read times h.1 h.2)))

-- a new object
new_read : (names : List Text) (o p : ℕ) (c : NameId) → IsCount o → IsCount p → IsNamed names c → AreRead (label_words names (L.New o p c) 1) (shown_of names (W.Step (L.New o p c) 1))
new_read names o p c first second named_by =
    by_words (label_words names (L.New o p c) 1) _ (refl, (object_dark o first, (object_dark p second, (name_dark (text_at names c) named_by.1, tt))))
    (by_step (codes "new") (object_text o) (object_text p ∷ text_at names c ∷ []) _
    (pair_read o p (λ x y. name_of_word (text_at names c) >>= λ text. named (once (L.New x y no_number)) text) first second
    ∙ name_then names c (λ text. named (once (L.New o p no_number)) text) named_by))

-- an answer
answer_read : (names : List Text) (p o : ℕ) (m : NameId) (args : List Value) → IsReadableMessage names p o m args
    → AreRead (label_words names (L.Answer p o m args) 1) (shown_of names (W.Step (L.Answer p o m args) 1))
answer_read names p o m args h =
    by_words (label_words names (L.Answer p o m args) 1) _ (refl, message_dark names p o m args h)
    (by_step (codes "answer") (object_text p) (object_text o ∷ text_at names m ∷ map value_text args) _ (message_read M.Answer names p o m args h))

-- a message that is sent
send_read : (names : List Text) (o p : ℕ) (m : NameId) (args : List Value) → IsReadableMessage names o p m args
    → AreRead (label_words names (L.Send o p m args) 1) (shown_of names (W.Step (L.Send o p m args) 1))
send_read names o p m args h =
    by_words (label_words names (L.Send o p m args) 1) _ (refl, message_dark names o p m args h)
    (by_step (codes "send") (object_text o) (object_text p ∷ text_at names m ∷ map value_text args) _ (message_read M.Send names o p m args h))

-- a message that is taken
take_read : (names : List Text) (p o : ℕ) (m : NameId) (args : List Value) → IsReadableMessage names p o m args
    → AreRead (label_words names (L.Take p o m args) 1) (shown_of names (W.Step (L.Take p o m args) 1))
take_read names p o m args h =
    by_words (label_words names (L.Take p o m args) 1) _ (refl, message_dark names p o m args h)
    (by_step (codes "take") (object_text p) (object_text o ∷ text_at names m ∷ map value_text args) _ (message_read M.Take names p o m args h))

-- a value that is returned
return_read : (names : List Text) (p o : ℕ) (v : Value) → IsCount p → IsCount o → IsReadableValue v
    → AreRead (label_words names (L.Return p o v) 1) (shown_of names (W.Step (L.Return p o v) 1))
return_read names p o v first second given =
    by_words (label_words names (L.Return p o v) 1) _ (refl, (object_dark p first, (object_dark o second, (value_dark v given, tt))))
    (by_step (codes "return") (object_text p) (object_text o ∷ value_text v ∷ []) _
    (pair_read p o (λ x y. value_of (value_text v) >>= λ u. plain (once (L.Return x y u))) first second
    ∙ value_then v (λ u. plain (once (L.Return p o u))) given))

-- a string may have spaces: it is all that is left of the line
item_shown : (names : List Text) (item : Item) → IsReadableItem names item → every is_shown (item_text names item) ≡ true
item_shown names (I.Value v) h = shown_word (value_text v) (value_dark v h)
item_shown names (I.Text id) h = string_shown (text_at names id) h.2

-- its fields are the object and those of what is written
written_fields : (names : List Text) (o : ℕ) (item : Item) → IsCount o → item_of o (item_text names item) ≡ Some (shown_of names (W.Step (L.Write o item) 1))
    → what_of (fields_of (label_words names (L.Write o item) 1)) ≡ Some (shown_of names (W.Step (L.Write o item) 1))
written_fields names o item h e =
    let left = fields (item_text names item) in
    ap (λ ps. what_of (codes "write" ∷ (ps ++ (left ++ [])))) (dark_field (object_text o) (object_dark o h))
    ∙ (ap (λ ps. what_of (codes "write" ∷ object_text o ∷ ps)) (append-nil left)
    ∙ by_step (codes "write") (object_text o) left _ (write_rest (object_text o) o (item_text names item) (object_read o h) ∙ e))

-- what is written is read
item_read : (names : List Text) (o : ℕ) (item : Item) → IsReadableItem names item → item_of o (item_text names item) ≡ Some (shown_of names (W.Step (L.Write o item) 1))
item_read names o (I.Value v) h =
    let w = value_text v in
    ap (λ q. elim q as (λ x. Option Shown) [
      | true ↦ string_of w >>= λ text. named (once (L.Write o (I.Text no_number))) text
      | false ↦ value_of w >>= λ u. plain (once (L.Write o (I.Value u)))
    ]) (value_no_string v h)
    ∙ value_then v (λ u. plain (once (L.Write o (I.Value u)))) h
item_read names o (I.Text id) h = ap (λ a. a >>= λ text. named (once (L.Write o (I.Text no_number))) text) (string_read (text_at names id) h.1 h.2)

-- what an object writes
written_read : (names : List Text) (o : ℕ) (item : Item) → IsCount o → IsReadableItem names item → AreRead (label_words names (L.Write o item) 1) (shown_of names (W.Step (L.Write o item) 1))
written_read names o item h given = record {
  shown = (refl, (shown_word (object_text o) (object_dark o h), (item_shown names item given, tt)));
  read = written_fields names o item h (item_read names o item given);
}

-- the alternative that an object picks
pick_read : (names : List Text) (o i : ℕ) → IsCount o → 0 < i → IsCount i → AreRead (label_words names (L.Pick o i) 1) (shown_of names (W.Step (L.Pick o i) 1))
pick_read names o i h some small =
    by_words (label_words names (L.Pick o i) 1) _ (refl, (object_dark o h, (decimal_dark i (omega arith), tt)))
    (by_step (codes "pick") (object_text o) (decimal i ∷ []) _
    (object_then o (λ x. positive_of (decimal i) >>= λ n. plain (once (L.Pick x n))) h
    ∙ ap (λ a. a >>= λ n. plain (once (L.Pick o n))) (positive_read i some small)))

-- a language error
fault_read : (names : List Text) (o : ℕ) (e : Error) → IsCount o → AreRead (label_words names (L.Fault o e) 1) (shown_of names (W.Step (L.Fault o e) 1))
fault_read names o e h =
    by_words (label_words names (L.Fault o e) 1) _ (refl, (object_dark o h, (error_dark e, tt)))
    (by_step (codes "fault") (object_text o) (error_text e ∷ []) _
    (object_then o (λ x. error_of (error_text e) >>= λ f. plain (once (L.Fault x f))) h
    ∙ ap (λ a. a >>= λ f. plain (once (L.Fault o f))) (error_read e)))

-- each transition
step_read : (names : List Text) (label : Label) (times : ℕ) → IsReadableStep names label times
    → AreRead (label_words names label times) (shown_of names (W.Step label times))
step_read names (L.Local o) times h = local_read names o times h
step_read names (L.New o p c) times h = once_read names (L.New o p c) times h.3 (new_read names o p c h.0 h.1 h.2)
step_read names (L.Answer p o m args) times h = once_read names (L.Answer p o m args) times h.1 (answer_read names p o m args h.0)
step_read names (L.Return p o v) times h = once_read names (L.Return p o v) times h.3 (return_read names p o v h.0 h.1 h.2)
step_read names (L.Send o p m args) times h = once_read names (L.Send o p m args) times h.1 (send_read names o p m args h.0)
step_read names (L.Take p o m args) times h = once_read names (L.Take p o m args) times h.1 (take_read names p o m args h.0)
step_read names (L.Write o item) times h = once_read names (L.Write o item) times h.2 (written_read names o item h.0 h.1)
step_read names (L.Pick o i) times h = once_read names (L.Pick o i) times h.3 (pick_read names o i h.0 h.1 h.2)
step_read names (L.Fault o e) times h = once_read names (L.Fault o e) times h.1 (fault_read names o e h.0)

-- what shows no transition

-- what shows no transition goes by its first word, which is none of those of transitions
by_delay : (w v : Text) (ws : List Text) (s : Shown) → step_of w (v ∷ ws) ≡ None → delay_of w (v ∷ ws) ≡ Some s → what_of (w ∷ v ∷ ws) ≡ Some s
by_delay w v ws s none e = ap (λ a. option_or a (delay_of w (v ∷ ws))) none ∙ e

-- a request for a new object
create_read : (names : List Text) (o : ℕ) (c : NameId) (n : ℕ) → IsCount o → IsNamed names c → IsCount n
    → AreRead (what_words names (W.PostCreate o c n)) (shown_of names (W.PostCreate o c n))
create_read names o c n h named_by small =
    by_words (what_words names (W.PostCreate o c n)) _ (refl, (refl, (object_dark o h, (name_dark (text_at names c) named_by.1, (decimal_dark n (omega arith), tt)))))
    (by_delay (codes "post") (codes "create") (object_text o ∷ text_at names c ∷ decimal n ∷ []) _ refl
    (object_then o (λ x. name_of_word (text_at names c) >>= λ text. count_of (decimal n) >>= λ node. named (W.PostCreate x no_number node) text) h
    ∙ (name_then names c (λ text. count_of (decimal n) >>= λ node. named (W.PostCreate o no_number node) text) named_by
    ∙ ap (λ a. a >>= λ node. named (W.PostCreate o no_number node) (text_at names c)) (count_read n small))))

-- a call that is posted
call_read : (names : List Text) (o p : ℕ) (m : NameId) (args : List Value) → IsReadableMessage names o p m args
    → AreRead (what_words names (W.PostCall o p m args)) (shown_of names (W.PostCall o p m args))
call_read names o p m args h =
    by_words (what_words names (W.PostCall o p m args)) _ (refl, (refl, message_dark names o p m args h))
    (by_delay (codes "post") (codes "call") (object_text o ∷ object_text p ∷ text_at names m ∷ map value_text args) _ refl (message_read M.PostCall names o p m args h))

-- a call that arrives
arrive_read : (names : List Text) (o p : ℕ) (m : NameId) → IsCount o → IsCount p → IsNamed names m
    → AreRead (what_words names (W.Arrive o p m)) (shown_of names (W.Arrive o p m))
arrive_read names o p m first second named_by =
    by_words (what_words names (W.Arrive o p m)) _ (refl, (object_dark o first, (object_dark p second, (name_dark (text_at names m) named_by.1, tt))))
    (by_delay (codes "arrive") (object_text o) (object_text p ∷ text_at names m ∷ []) _ refl
    (pair_read o p (λ x y. name_of_word (text_at names m) >>= λ text. named (W.Arrive x y no_number) text) first second
    ∙ name_then names m (λ text. named (W.Arrive o p no_number) text) named_by))

-- an object hears of a new one
created_read : (names : List Text) (o p : ℕ) → IsCount o → IsCount p → AreRead (what_words names (W.Created o p)) (shown_of names (W.Created o p))
created_read names o p first second =
    by_words (what_words names (W.Created o p)) _ (refl, (object_dark o first, (object_dark p second, tt)))
    (by_delay (codes "created") (object_text o) (object_text p ∷ []) _ refl (pair_read o p (λ x y. plain (W.Created x y)) first second))

-- an object hears of its result
result_read : (names : List Text) (o : ℕ) (v : Value) → IsCount o → IsReadableValue v → AreRead (what_words names (W.Result o v)) (shown_of names (W.Result o v))
result_read names o v h given =
    by_words (what_words names (W.Result o v)) _ (refl, (object_dark o h, (value_dark v given, tt)))
    (by_delay (codes "result") (object_text o) (value_text v ∷ []) _ refl
    (object_then o (λ x. value_of (value_text v) >>= λ u. plain (W.Result x u)) h ∙ value_then v (λ u. plain (W.Result o u)) given))

-- all that a line can show
pub what_read : (names : List Text) (w : What) → IsReadableWhat names w → AreRead (what_words names w) (shown_of names w)
what_read names (W.Step label times) h = step_read names label times h
what_read names (W.PostCreate o c n) h = create_read names o c n h.0 h.1 h.2
what_read names (W.PostCall o p m args) h = call_read names o p m args h
what_read names (W.Arrive o p m) h = arrive_read names o p m h.0 h.1 h.2
what_read names (W.Created o p) h = created_read names o p h.0 h.1
what_read names (W.Result o v) h = result_read names o v h.0 h.1
what_read names W.Pass h = record { shown = (refl, tt); read = refl }
what_read names W.Idle h = record { shown = (refl, tt); read = refl }
what_read names (W.Frame n) h =
    by_words (what_words names (W.Frame n)) _ (refl, (decimal_dark n (omega (arith, h)), tt))
    (by_delay (codes "frame") (decimal n) [] _ refl (ap (λ a. a >>= λ k. plain (W.Frame k)) (count_read n h)))
what_read names (W.Lost n) h =
    by_words (what_words names (W.Lost n)) _ (refl, (decimal_dark n (omega (arith, h)), tt))
    (by_delay (codes "lost") (decimal n) [] _ refl (ap (λ a. a >>= λ k. plain (W.Lost k)) (count_read n h)))
what_read names (W.Stale n) h =
    by_words (what_words names (W.Stale n)) _ (refl, (decimal_dark n (omega (arith, h)), tt))
    (by_delay (codes "stale") (decimal n) [] _ refl (ap (λ a. a >>= λ k. plain (W.Stale k)) (count_read n h)))
what_read names (W.Acked n) h =
    by_words (what_words names (W.Acked n)) _ (refl, (decimal_dark n (omega (arith, h)), tt))
    (by_delay (codes "acked") (decimal n) [] _ refl (ap (λ a. a >>= λ k. plain (W.Acked k)) (count_read n h)))
what_read names (W.Late n) h =
    by_words (what_words names (W.Late n)) _ (refl, (decimal_dark n (omega (arith, h)), tt))
    (by_delay (codes "late") (decimal n) [] _ refl (ap (λ a. a >>= λ k. plain (W.Late k)) (count_read n h)))
