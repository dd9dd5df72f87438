-- The lines that can be written: their name, if they have one, is a text of the table with at most 256 bytes.
use Rattle.std.specs.Prelude.{◌<◌, ◌≤◌, List, length, Option, Some, None, IfSome}
use Rattle.text_scan.specs.Text.{Text}
use Rattle.run_types.specs.declared.types.NameId.{NameId}
use Rattle.run_types.specs.declared.types.Item.{Item}
use Rattle.run_types.specs.declared.types.Item.TheVariants as I
use Rattle.run_types.specs.declared.types.Label.{Label}
use Rattle.run_types.specs.declared.types.Label.TheVariants as L
use Rattle.run_types.specs.declared.types.What.{What}
use Rattle.run_types.specs.declared.types.What.TheVariants as W
use Rattle.run_types.specs.declared.types.Line.{Line}
use Rattle.run_types.specs.declared.types.Line.TheVariants as R
use Rattle.record_writer.specs.RecordText.{text_at}

abbrev pub id_of_item : Item → Option NameId
id_of_item (I.Value v) = None
id_of_item (I.Text id) = Some id

abbrev pub id_of_label : Label → Option NameId
id_of_label (L.Local o) = None
id_of_label (L.New o p c) = Some c
id_of_label (L.Answer p o m args) = Some m
id_of_label (L.Return p o v) = None
id_of_label (L.Send o p m args) = Some m
id_of_label (L.Take p o m args) = Some m
id_of_label (L.Write o item) = id_of_item item
id_of_label (L.Pick o i) = None
id_of_label (L.Fault o e) = None

abbrev pub id_of_what : What → Option NameId
id_of_what (W.Step label times) = id_of_label label
id_of_what (W.PostCreate o c n) = Some c
id_of_what (W.PostCall o p m args) = Some m
id_of_what (W.Arrive o p m) = Some m
id_of_what (W.Created o p) = None
id_of_what (W.Result o v) = None
id_of_what W.Pass = None
id_of_what W.Idle = None
id_of_what (W.Frame n) = None
id_of_what (W.Lost n) = None
id_of_what (W.Stale n) = None
id_of_what (W.Acked n) = None
id_of_what (W.Late n) = None

-- the name of a line: a class, a method or a string; no line has two
abbrev pub id_of_line : Line → Option NameId
id_of_line (R.Event number event what) = id_of_what what
id_of_line (R.End end) = None

-- a number of the table whose text has at most 256 bytes
abbrev pub IsShort : List Text → NameId → Type 0
IsShort names id = (id.0 < length names) × (length (text_at names id) ≤ 256)

abbrev pub AreShort : List Text → Option NameId → Type 0
AreShort names id = IfSome id (λ id. IsShort names id)

abbrev pub IsWritable : List Text → Line → Type 0
IsWritable names l = AreShort names (id_of_line l)
