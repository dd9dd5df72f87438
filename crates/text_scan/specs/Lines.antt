-- The lines of a text, the words of a line, and the numbers below 2 ^ 63 that words spell.
use Rattle.std.specs.Prelude.{ℕ, Bool, true, false, ◌||◌, ◌&&◌, not, nat_le, nat_eq, List, [], ◌∷◌}
use Rattle.text_scan.specs.Text.{Text, is_integer, value_of_digits}
use Rattle.text_scan.specs.declared.spans.Decimal.{Decimal}
use Rattle.text_scan.specs.declared.spans.Decimal.TheVariants.{NotDigits, TooLarge, Value}

-- the texts with the byte before the first one, or the byte as the only text
abbrev pub at_front : ℕ → List Text → List Text
at_front b [] = (b ∷ []) ∷ []
at_front b (first ∷ others) = (b ∷ first) ∷ others

-- whether the text begins with a line feed
abbrev pub begins_with_line_feed : Text → Bool
begins_with_line_feed [] = false
begins_with_line_feed (b ∷ bs) = nat_eq b 10

-- the lines of a text: a line ends before a line feed, or at the end of the text if that has bytes after the last
-- one; a carriage return directly before a line feed is no part of a line
abbrev pub lines : Text → List Text
lines [] = []
lines (b ∷ bs) = elim (nat_eq b 10) [
  | true ↦ [] ∷ lines bs
  | false ↦ elim (nat_eq b 13 && begins_with_line_feed bs) [ true ↦ lines bs | false ↦ at_front b (lines bs) ]
]

-- whether a byte is a blank: space or tab
abbrev pub is_blank : ℕ → Bool
is_blank b = nat_eq b 32 || nat_eq b 9

-- whether the text begins with a byte that is no blank
abbrev pub begins_with_word : Text → Bool
begins_with_word [] = false
begins_with_word (b ∷ bs) = not (is_blank b)

-- the words of a line: its runs of bytes other than blanks
abbrev pub words : Text → List Text
words [] = []
words (b ∷ bs) = elim (is_blank b) [
  | true ↦ words bs
  | false ↦ elim (begins_with_word bs) [ true ↦ at_front b (words bs) | false ↦ (b ∷ []) ∷ words bs ]
]

-- the number that a word of digits spells, if it is below 2 ^ 63
abbrev pub decimal_of : Text → Decimal
decimal_of w = elim (is_integer w) [
  | true ↦ elim (nat_le (value_of_digits 0 w) 9223372036854775807) [ true ↦ Value (value_of_digits 0 w) | false ↦ TooLarge ]
  | false ↦ NotDigits
]
