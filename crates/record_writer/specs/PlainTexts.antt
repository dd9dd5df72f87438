-- The text of a written item without quotes.
use Rattle.std.specs.Prelude.{List}
use Rattle.text_scan.specs.Text.{Text}
use Rattle.run_types.specs.declared.types.Item.{Item}
use Rattle.run_types.specs.declared.types.Item.TheVariants as I
use Rattle.record_writer.specs.RecordText.{text_at, value_text}

-- the text of a written item, a string without quotes
abbrev pub bare_text : List Text → Item → Text
bare_text names (I.Value v) = value_text v
bare_text names (I.Text id) = text_at names id
