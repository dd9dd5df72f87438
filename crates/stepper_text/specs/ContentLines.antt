-- The lines of the methods under way in the content of a body or of a method.
use Rattle.std.specs.Prelude.{ℕ, List, []}
use Rattle.text_scan.specs.Text.{Text}
use Rattle.stepper_terms.specs.Parts.{Content, Running, Valued, Over}
use Rattle.term_text.specs.Levels.{expression_lines, statements_lines}

abbrev pub content_lines : List Text → ℕ → Content → Text
content_lines names o (Running ss) = statements_lines names o ss
content_lines names o (Valued e) = expression_lines names o e
content_lines names o (Over v) = []
