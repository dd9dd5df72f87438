-- The line that a parsed line of the code represents.
use Rattle.std.specs.Prelude.{option_map}
use Rattle.record_parser.specs.declared.line.ReadLine.{ReadLine}
use Rattle.record_parser.specs.Lines.{Told}

abbrev pub told : ReadLine → Told
told r = record { line = r.line; text = option_map (λ t. t.now) r.text }
