-- Local transitions of one object whose line is not written yet.
use Rattle.std.specs.Prelude.{List, ◌++◌, replicate}
use Rattle.text_scan.specs.Text.{Text}
use Rattle.run_types.specs.declared.types.Label.{Label}
use Rattle.run_types.specs.declared.types.Label.TheVariants as L
use Rattle.search_text.specs.AnswerText.{steps_text}
use Rattle.search_text.specs.Steps.{steps}
use Rattle.search_text.specs.declared.steps.Locals.{Locals}

abbrev pub open_labels : Locals → List Label
open_labels s = replicate s.times (L.Local s.object)

-- the text of open labels and others after them
abbrev pub text_from : List Text → Locals → List Label → Text
text_from names s ls = steps_text names (steps (open_labels s ++ ls))
