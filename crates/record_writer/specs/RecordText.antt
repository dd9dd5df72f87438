-- The text of the lines of a record: words with one space between them, and a line feed.
use Rattle.std.specs.Prelude.{ℕ, ◌/◌, ◌%◌, List, [], ◌∷◌, ◌++◌, map, codes, decimal, slice_get}
use Rattle.std.specs.Fmt.{signed_decimal}
use Rattle.run_types.specs.Table.{text_or_none}
use Rattle.text_scan.specs.Text.{Text, truth_text}
use Rattle.run_types.specs.declared.types.NameId.{NameId}
use Rattle.run_types.specs.declared.types.Value.{Value}
use Rattle.run_types.specs.declared.types.Value.TheVariants as V
use Rattle.run_types.specs.declared.types.Item.{Item}
use Rattle.run_types.specs.declared.types.Item.TheVariants as I
use Rattle.run_types.specs.declared.types.Error.{Error}
use Rattle.run_types.specs.declared.types.Error.TheVariants as error
use Rattle.run_types.specs.declared.types.FullKind.{FullKind}
use Rattle.run_types.specs.declared.types.FullKind.TheVariants as full
use Rattle.run_types.specs.declared.types.Label.{Label}
use Rattle.run_types.specs.declared.types.Label.TheVariants as L
use Rattle.run_types.specs.declared.types.What.{What}
use Rattle.run_types.specs.declared.types.What.TheVariants as W
use Rattle.run_types.specs.declared.types.WireAct.{WireAct}
use Rattle.run_types.specs.declared.types.WireAct.TheVariants as A
use Rattle.run_types.specs.declared.types.Event.{Event}
use Rattle.run_types.specs.declared.types.Event.TheVariants as E
use Rattle.run_types.specs.declared.types.End.{End}
use Rattle.run_types.specs.declared.types.End.TheVariants as F
use Rattle.run_types.specs.declared.types.Line.{Line}
use Rattle.run_types.specs.declared.types.Line.TheVariants as R

-- words, each after a space
abbrev pub led : List Text → Text
led [] = []
led (w ∷ ws) = 32 ∷ (w ++ led ws)

-- words with one space between them
abbrev pub joined : List Text → Text
joined [] = []
joined (w ∷ ws) = w ++ led ws

-- the text of this number in the table, or no bytes if the table has no such number
abbrev pub text_at : List Text → NameId → Text
text_at names id = text_or_none (slice_get names id.0)

-- an object's name, as `node.slot`
abbrev pub object_text : ℕ → Text
object_text o = decimal (o / 65536) ++ 46 ∷ decimal (o % 65536)

abbrev pub value_text : Value → Text
value_text (V.Int z) = signed_decimal z
value_text (V.Bool b) = truth_text b
value_text (V.Ref o) = object_text o
value_text V.Nil = codes "nil"

-- a written item: a value, or a string in quotes
abbrev pub item_text : List Text → Item → Text
item_text names (I.Value v) = value_text v
item_text names (I.Text id) = 34 ∷ (text_at names id ++ 34 ∷ [])

abbrev pub error_text : Error → Text
error_text error.NilDestination = codes "NilDestination"
error_text error.NilOperand = codes "NilOperand"
error_text error.Overflow = codes "Overflow"
error_text error.ZeroDivisor = codes "ZeroDivisor"
error_text error.NoOpenGuard = codes "NoOpenGuard"

-- the words of a transition; only a local one has the number of transitions
abbrev pub label_words : List Text → Label → ℕ → List Text
label_words names (L.Local o) times = codes "local" ∷ object_text o ∷ decimal times ∷ []
label_words names (L.New o p c) times = codes "new" ∷ object_text o ∷ object_text p ∷ text_at names c ∷ []
label_words names (L.Answer p o m args) times = codes "answer" ∷ object_text p ∷ object_text o ∷ text_at names m ∷ map value_text args
label_words names (L.Return p o v) times = codes "return" ∷ object_text p ∷ object_text o ∷ value_text v ∷ []
label_words names (L.Send o p m args) times = codes "send" ∷ object_text o ∷ object_text p ∷ text_at names m ∷ map value_text args
label_words names (L.Take p o m args) times = codes "take" ∷ object_text p ∷ object_text o ∷ text_at names m ∷ map value_text args
label_words names (L.Write o item) times = codes "write" ∷ object_text o ∷ item_text names item ∷ []
label_words names (L.Pick o i) times = codes "pick" ∷ object_text o ∷ decimal i ∷ []
label_words names (L.Fault o e) times = codes "fault" ∷ object_text o ∷ error_text e ∷ []

-- the words of the content of a line
abbrev pub what_words : List Text → What → List Text
what_words names (W.Step label times) = label_words names label times
what_words names (W.PostCreate o c n) = codes "post" ∷ codes "create" ∷ object_text o ∷ text_at names c ∷ decimal n ∷ []
what_words names (W.PostCall o p m args) = codes "post" ∷ codes "call" ∷ object_text o ∷ object_text p ∷ text_at names m ∷ map value_text args
what_words names (W.Arrive o p m) = codes "arrive" ∷ object_text o ∷ object_text p ∷ text_at names m ∷ []
what_words names (W.Created o p) = codes "created" ∷ object_text o ∷ object_text p ∷ []
what_words names (W.Result o v) = codes "result" ∷ object_text o ∷ value_text v ∷ []
what_words names W.Pass = codes "pass" ∷ []
what_words names W.Idle = codes "idle" ∷ []
what_words names (W.Frame n) = codes "frame" ∷ decimal n ∷ []
what_words names (W.Lost n) = codes "lost" ∷ decimal n ∷ []
what_words names (W.Stale n) = codes "stale" ∷ decimal n ∷ []
what_words names (W.Acked n) = codes "acked" ∷ decimal n ∷ []
what_words names (W.Late n) = codes "late" ∷ decimal n ∷ []

-- the words of a wire event, the same as in a schedule
abbrev pub wire_words : WireAct → List Text
wire_words A.Send = codes "send" ∷ []
wire_words A.Ack = codes "ack" ∷ []
wire_words A.Lose = codes "lose" ∷ []
wire_words A.Twice = codes "twice" ∷ []
wire_words A.Late = codes "late" ∷ []
wire_words A.LoseAck = codes "lose" ∷ codes "ack" ∷ []
wire_words A.TwiceAck = codes "twice" ∷ codes "ack" ∷ []
wire_words A.LateAck = codes "late" ∷ codes "ack" ∷ []

abbrev pub event_words : Event → List Text
event_words (E.Turn node) = codes "turn" ∷ decimal node ∷ []
event_words (E.Link from to) = codes "link" ∷ decimal from ∷ decimal to ∷ []
event_words (E.Wire act from to) = wire_words act ++ decimal from ∷ decimal to ∷ []

abbrev pub full_text : FullKind → Text
full_text full.Heap = codes "heap"
full_text full.Frames = codes "frames"
full_text full.Cells = codes "cells"

-- the words of the end of a record, with the number of its events; if a node is full, also the limit and the node
abbrev pub end_words : End → List Text
end_words (F.Quiet done) = codes "end" ∷ codes "quiet" ∷ decimal done ∷ []
end_words (F.Schedule done) = codes "end" ∷ codes "schedule" ∷ decimal done ∷ []
end_words (F.Full kind node done) = codes "end" ∷ codes "full" ∷ full_text kind ∷ decimal node ∷ decimal done ∷ []

abbrev pub line_words : List Text → Line → List Text
line_words names (R.Event number event what) = decimal number ∷ (event_words event ++ what_words names what)
line_words names (R.End end) = end_words end

-- a line, with its line feed
abbrev pub line_text : List Text → Line → Text
line_text names l = joined (line_words names l) ++ 10 ∷ []

abbrev pub record_text : List Text → List Line → Text
record_text names [] = []
record_text names (l ∷ ls) = line_text names l ++ record_text names ls
