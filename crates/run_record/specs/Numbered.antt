-- The lines of a record with the numbers of their names in a table, and the table after them.
use Rattle.std.specs.Prelude.{List, [], ◌∷◌, Option, Some, None}
use Rattle.run_types.specs.Table.{name_of, with_text}
use Rattle.text_scan.specs.Text.{Text}
use Rattle.run_types.specs.declared.types.NameId.{NameId}
use Rattle.run_types.specs.declared.types.Item.{Item}
use Rattle.run_types.specs.declared.types.Item.TheVariants as I
use Rattle.run_types.specs.declared.types.Label.{Label}
use Rattle.run_types.specs.declared.types.Label.TheVariants as L
use Rattle.run_types.specs.declared.types.What.{What}
use Rattle.run_types.specs.declared.types.What.TheVariants as W
use Rattle.run_types.specs.declared.types.Line.{Line}
use Rattle.run_types.specs.declared.types.Line.TheVariants as R
use Rattle.record_parser.specs.Lines.{Told}

-- the same item, label, content or line with this number of its name, if it has a name
abbrev pub item_with : NameId → Item → Item
item_with id (I.Value v) = I.Value v
item_with id (I.Text t) = I.Text id

abbrev pub label_with : NameId → Label → Label
label_with id (L.Local o) = L.Local o
label_with id (L.New o p c) = L.New o p id
label_with id (L.Answer p o m args) = L.Answer p o id args
label_with id (L.Return p o v) = L.Return p o v
label_with id (L.Send o p m args) = L.Send o p id args
label_with id (L.Take p o m args) = L.Take p o id args
label_with id (L.Write o item) = L.Write o (item_with id item)
label_with id (L.Pick o i) = L.Pick o i
label_with id (L.Fault o e) = L.Fault o e

abbrev pub what_with : NameId → What → What
what_with id (W.Step label times) = W.Step (label_with id label) times
what_with id (W.PostCreate o c n) = W.PostCreate o id n
what_with id (W.PostCall o p m args) = W.PostCall o p id args
what_with id (W.Arrive o p m) = W.Arrive o p id
what_with id (W.Created o p) = W.Created o p
what_with id (W.Result o v) = W.Result o v
what_with id W.Pass = W.Pass
what_with id W.Idle = W.Idle
what_with id (W.Frame n) = W.Frame n
what_with id (W.Lost n) = W.Lost n
what_with id (W.Stale n) = W.Stale n
what_with id (W.Acked n) = W.Acked n
what_with id (W.Late n) = W.Late n

abbrev pub line_with : NameId → Line → Line
line_with id (R.Event n e what) = R.Event n e (what_with id what)
line_with id (R.End e) = R.End e

-- the table with the text of a name, which is appended if it is new
abbrev pub with_name : List Text → Option Text → List Text
with_name names None = names
with_name names (Some w) = with_text names w

abbrev pub numbered_by : List Text → Option Text → Line → Line
numbered_by names None l = l
numbered_by names (Some w) l = line_with (record { 0 = name_of names w }) l

-- the line with the number of its name in the table
abbrev pub numbered : List Text → Told → Line
numbered names t = numbered_by names t.text t.line

abbrev pub names_after : List Text → List Told → List Text
names_after names [] = names
names_after names (t ∷ ts) = names_after (with_name names t.text) ts

abbrev pub lines_after : List Text → List Told → List Line
lines_after names [] = []
lines_after names (t ∷ ts) = numbered names t ∷ lines_after (with_name names t.text) ts
