-- The content of a line that a parsed content of the code represents.
use Rattle.std.specs.Prelude.{option_map}
use Rattle.record_parser.specs.declared.shown.Read.{Read}
use Rattle.record_parser.specs.Shown.{Shown}

abbrev pub shown : Read → Shown
shown r = record { what = r.what; text = option_map (λ t. t.now) r.text }
