-- The content lines of a placement or a schedule, with their numbers from 1, and the numbers that words spell.
use Rattle.std.specs.Prelude.{ℕ, ◌+◌, List, [], ◌∷◌, Option, Some, None, Bool, true, false, not, nat_eq}
use Rattle.text_scan.specs.Text.{Text}
use Rattle.text_scan.specs.Lines.{lines, words, decimal_of}
use Rattle.text_scan.specs.declared.spans.Decimal.{Decimal}
use Rattle.text_scan.specs.declared.spans.Decimal.TheVariants.{NotDigits, TooLarge, Value}

-- whether the word begins with `#`
abbrev pub begins_with_hash : Text → Bool
begins_with_hash [] = false
begins_with_hash (b ∷ bs) = nat_eq b 35

-- whether a line with these words has content: it is not blank, and its first word does not begin with `#`
abbrev pub is_kept : List Text → Bool
is_kept [] = false
is_kept (w ∷ ws) = not (begins_with_hash w)

-- a content line: its number in the text and its words
pub record Kept : Type 0 where
  pub line : ℕ
  pub words : List Text

-- the content lines of these lines, of which the first has the number n; all lines are counted
abbrev pub kept_from : ℕ → List Text → List Kept
kept_from n [] = []
kept_from n (l ∷ ls) = elim (is_kept (words l)) [
  | true ↦ record { line = n; words = words l } ∷ kept_from (n + 1) ls
  | false ↦ kept_from (n + 1) ls
]

-- the content lines of a text
abbrev pub kept : Text → List Kept
kept s = kept_from 1 (lines s)

-- the value of a decimal; 2 ^ 63 for each number of 2 ^ 63 or more, which is outside every range
abbrev pub counted : Decimal → Option ℕ
counted NotDigits = None
counted TooLarge = Some 9223372036854775808
counted (Value n) = Some n

-- the number that a word of digits spells
abbrev pub number_of : Text → Option ℕ
number_of w = counted (decimal_of w)
