-- Texts as lists of bytes: the sets of bytes, words and integers, look-ups by text, and the text of a truth value.
use Rattle.std.specs.Prelude.{ℕ, ◌+◌, ◌-◌, ◌*◌, Bool, true, false, ◌&&◌, ◌||◌, not, List, [], ◌∷◌, Option, Some, None, nat_le, nat_eq, bytes_eq, codes}

-- a text is a list of bytes
abbrev pub Text : Type 0
Text = List ℕ

-- the item of the first row with this text
abbrev pub lookup : {A : Type 0} → List (Text × A) → Text → Option A
lookup [] w = None
lookup (row ∷ rows) w = elim (bytes_eq row.0 w) [ true ↦ Some row.1 | false ↦ lookup rows w ]

-- whether a row has this text
abbrev pub is_listed : {A : Type 0} → List (Text × A) → Text → Bool
is_listed [] w = false
is_listed (row ∷ rows) w = bytes_eq row.0 w || is_listed rows w

-- whether each byte passes the test
abbrev pub every : (ℕ → Bool) → Text → Bool
every p [] = true
every p (b ∷ bs) = p b && every p bs

abbrev between : ℕ → ℕ → ℕ → Bool
between low high b = nat_le low b && nat_le b high

-- whether a byte is a space, a tab, a line feed or a carriage return
abbrev pub is_space : ℕ → Bool
is_space b = nat_eq b 32 || (nat_eq b 9 || (nat_eq b 10 || nat_eq b 13))

abbrev pub is_digit : ℕ → Bool
is_digit b = between 48 57 b

-- whether a byte is an ASCII letter or `_`
abbrev pub is_letter : ℕ → Bool
is_letter b = between 65 90 b || (between 97 122 b || nat_eq b 95)

-- whether a text is a word: a letter, followed by letters and digits
abbrev pub is_word : Text → Bool
is_word [] = false
is_word (b ∷ bs) = is_letter b && every (λ c. is_letter c || is_digit c) bs

-- whether a text is an integer: one or more digits
abbrev pub is_integer : Text → Bool
is_integer [] = false
is_integer (b ∷ bs) = every is_digit (b ∷ bs)

-- whether a byte may occur inside a string: a printable ASCII byte other than the quote
abbrev pub is_inner : ℕ → Bool
is_inner b = between 32 126 b && not (nat_eq b 34)

-- the number that these digits spell after the digits of the number `before`
abbrev pub value_of_digits : ℕ → Text → ℕ
value_of_digits before [] = before
value_of_digits before (d ∷ ds) = value_of_digits (before * 10 + (d - 48)) ds

-- the text of a truth value
abbrev pub truth_text : Bool → Text
truth_text true = codes "true"
truth_text false = codes "false"
