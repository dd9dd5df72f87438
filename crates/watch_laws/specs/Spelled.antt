-- The text of tokens, each after a space.
use Rattle.std.specs.Prelude.{List, map}
use Rattle.text_scan.specs.Text.{Text}
use Rattle.pool_syntax.specs.declared.token.Tok.{Tok}
use Rattle.pool_printer.specs.Spelling.{spelling}
use Rattle.record_writer.specs.RecordText.{led}

abbrev pub spelled : List Text → List Tok → Text
spelled names ts = led (map (spelling names) ts)
