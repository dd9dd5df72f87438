-- The lines that are a record: their numbers, names, strings and values are in the ranges of the format, and they are
-- in order.
use Rattle.std.specs.Prelude.{◌≡◌, ℕ, ◌+◌, ◌<◌, ◌≤◌, List, [], ◌∷◌, length, true}
use Rattle.text_scan.specs.Text.{Text, every, is_inner}
use Rattle.run_types.specs.Values.{is_in_range}
use Rattle.run_types.specs.declared.types.NameId.{NameId}
use Rattle.run_types.specs.declared.types.Value.{Value}
use Rattle.run_types.specs.declared.types.Value.TheVariants as V
use Rattle.run_types.specs.declared.types.Item.{Item}
use Rattle.run_types.specs.declared.types.Item.TheVariants as I
use Rattle.run_types.specs.declared.types.Label.{Label}
use Rattle.run_types.specs.declared.types.Label.TheVariants as L
use Rattle.run_types.specs.declared.types.What.{What}
use Rattle.run_types.specs.declared.types.What.TheVariants as W
use Rattle.run_types.specs.declared.types.Event.{Event}
use Rattle.run_types.specs.declared.types.Event.TheVariants as E
use Rattle.run_types.specs.declared.types.End.{End}
use Rattle.run_types.specs.declared.types.End.TheVariants as F
use Rattle.run_types.specs.declared.types.Line.{Line}
use Rattle.run_types.specs.declared.types.Line.TheVariants as R
use Rattle.record_writer.specs.RecordText.{text_at}
use Rattle.record_parser.specs.Fields.{is_name}
use Rattle.run_record.specs.Records.{done_of}

-- a number of 32 bits: a count, a node, or the number of an object's name
abbrev pub IsCount : ℕ → Type 0
IsCount n = n < 4294967296

-- a number of the table whose text is a name, or a string
abbrev pub IsNamed : List Text → NameId → Type 0
IsNamed names id = (id.0 < length names) × (is_name (text_at names id) ≡ true)

abbrev pub IsString : List Text → NameId → Type 0
IsString names id = (id.0 < length names) × (length (text_at names id) ≤ 256) × (every is_inner (text_at names id) ≡ true)

abbrev pub IsReadableValue : Value → Type 0
IsReadableValue (V.Int z) = is_in_range z ≡ true
IsReadableValue (V.Bool b) = Unit {0}
IsReadableValue (V.Ref o) = IsCount o
IsReadableValue V.Nil = Unit {0}

abbrev pub AreReadableValues : List Value → Type 0
AreReadableValues [] = Unit {0}
AreReadableValues (v ∷ vs) = IsReadableValue v × AreReadableValues vs

abbrev pub AreReadableArgs : List Value → Type 0
AreReadableArgs vs = (length vs ≤ 8) × AreReadableValues vs

abbrev pub IsReadableItem : List Text → Item → Type 0
IsReadableItem names (I.Value v) = IsReadableValue v
IsReadableItem names (I.Text id) = IsString names id

-- a message of one object to another
abbrev pub IsReadableMessage : List Text → ℕ → ℕ → NameId → List Value → Type 0
IsReadableMessage names o p m args = IsCount o × IsCount p × IsNamed names m × AreReadableArgs args

-- a transition and the number of times that it is made: 1, but for local ones
abbrev pub IsReadableStep : List Text → Label → ℕ → Type 0
IsReadableStep names (L.Local o) times = IsCount o × (0 < times) × IsCount times
IsReadableStep names (L.New o p c) times = IsCount o × IsCount p × IsNamed names c × (times ≡ 1)
IsReadableStep names (L.Answer p o m args) times = IsReadableMessage names p o m args × (times ≡ 1)
IsReadableStep names (L.Return p o v) times = IsCount p × IsCount o × IsReadableValue v × (times ≡ 1)
IsReadableStep names (L.Send o p m args) times = IsReadableMessage names o p m args × (times ≡ 1)
IsReadableStep names (L.Take p o m args) times = IsReadableMessage names p o m args × (times ≡ 1)
IsReadableStep names (L.Write o item) times = IsCount o × IsReadableItem names item × (times ≡ 1)
IsReadableStep names (L.Pick o i) times = IsCount o × (0 < i) × IsCount i × (times ≡ 1)
IsReadableStep names (L.Fault o e) times = IsCount o × (times ≡ 1)

abbrev pub IsReadableWhat : List Text → What → Type 0
IsReadableWhat names (W.Step label times) = IsReadableStep names label times
IsReadableWhat names (W.PostCreate o c n) = IsCount o × IsNamed names c × IsCount n
IsReadableWhat names (W.PostCall o p m args) = IsReadableMessage names o p m args
IsReadableWhat names (W.Arrive o p m) = IsCount o × IsCount p × IsNamed names m
IsReadableWhat names (W.Created o p) = IsCount o × IsCount p
IsReadableWhat names (W.Result o v) = IsCount o × IsReadableValue v
IsReadableWhat names W.Pass = Unit {0}
IsReadableWhat names W.Idle = Unit {0}
IsReadableWhat names (W.Frame n) = IsCount n
IsReadableWhat names (W.Lost n) = IsCount n
IsReadableWhat names (W.Stale n) = IsCount n
IsReadableWhat names (W.Acked n) = IsCount n
IsReadableWhat names (W.Late n) = IsCount n

abbrev pub IsReadableEvent : Event → Type 0
IsReadableEvent (E.Turn node) = IsCount node
IsReadableEvent (E.Link from to) = IsCount from × IsCount to
IsReadableEvent (E.Wire act from to) = IsCount from × IsCount to

abbrev pub IsReadableEnd : End → Type 0
IsReadableEnd (F.Quiet done) = Unit {0}
IsReadableEnd (F.Schedule done) = Unit {0}
IsReadableEnd (F.Full kind node done) = IsCount node

-- The lines after an event with this number: events with the next numbers, at most 2,000,000, and one end line with the
-- number of events.
abbrev pub IsRecordFrom : List Text → ℕ → List Line → Type 0
IsRecordFrom names last [] = ⊥
IsRecordFrom names last (R.Event n e what ∷ ls) = (n ≡ last + 1) × (n ≤ 2000000) × IsReadableEvent e × IsReadableWhat names what × IsRecordFrom names n ls
IsRecordFrom names last (R.End end ∷ []) = (done_of end ≡ last) × IsReadableEnd end
IsRecordFrom names last (R.End end ∷ l ∷ ls) = ⊥

-- the lines of a record
abbrev pub IsRecord : List Text → List Line → Type 0
IsRecord names ls = IsRecordFrom names 0 ls
