-- The text of a record in the second form, in which a line that answers a request ends in ` by` and the request's
-- number. The first line names the form.
use Rattle.std.specs.Prelude.{ℕ, List, [], ◌∷◌, ◌++◌, Bool, true, false, codes, decimal}
use Rattle.text_scan.specs.Text.{Text}
use Rattle.run_types.specs.declared.types.Line.{Line}
use Rattle.run_types.specs.Asks.{asks, is_asked}
use Rattle.record_writer.specs.RecordText.{joined, line_words}

-- the words of a request number, for a line that carries one
abbrev pub ask_words : Bool → ℕ → List Text
ask_words false ask = []
ask_words true ask = codes "by" ∷ decimal ask ∷ []

-- the text of a line with this request number, and its line feed
abbrev pub line_text2 : List Text → Line → ℕ → Text
line_text2 names l ask = joined (line_words names l ++ ask_words (is_asked l) ask) ++ 10 ∷ []

-- the text of lines with these request numbers
abbrev pub lines_text2 : List Text → List Line → List ℕ → Text
lines_text2 names (l ∷ ls) (ask ∷ rest) = line_text2 names l ask ++ lines_text2 names ls rest
lines_text2 names _ _ = []

-- the text of the first line, without its line feed
abbrev pub form_text : Text
form_text = codes "record 2"

-- the text of a record
abbrev pub text2 : List Text → List Line → Text
text2 names ls = form_text ++ 10 ∷ lines_text2 names ls (asks ls)
