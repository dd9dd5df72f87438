-- What the lines of a record write for its user: the items, and the end line.
use Rattle.std.specs.Prelude.{List, [], ◌∷◌, ◌++◌}
use Rattle.text_scan.specs.Text.{Text}
use Rattle.run_types.specs.declared.types.Item.{Item}
use Rattle.run_types.specs.declared.types.Item.TheVariants as I
use Rattle.run_types.specs.declared.types.Label.TheVariants as L
use Rattle.run_types.specs.declared.types.What.TheVariants as W
use Rattle.run_types.specs.declared.types.Line.{Line}
use Rattle.run_types.specs.declared.types.Line.TheVariants as R
use Rattle.record_writer.specs.RecordText.{line_text, text_at, value_text}

-- the text of an item with a line feed; a string has no quotes
abbrev pub written_text : List Text → Item → Text
written_text names (I.Value v) = value_text v ++ 10 ∷ []
written_text names (I.Text id) = text_at names id ++ 10 ∷ []

-- the text of the item that a line writes; the end line is written whole
abbrev pub writes_of : List Text → Line → Text
writes_of names (R.Event number e (W.Step (L.Write o item) times)) = written_text names item
writes_of names (R.Event number e what) = []
writes_of names (R.End e) = line_text names (R.End e)

abbrev pub writes_text : List Text → List Line → Text
writes_text names [] = []
writes_text names (l ∷ ls) = writes_of names l ++ writes_text names ls
