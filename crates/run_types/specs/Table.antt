-- The table of the texts of a program's names and strings: a list of distinct texts, in which the number of a text is
-- its index.
use Rattle.std.specs.Prelude.{ℕ, suc, List, [], ◌∷◌, ◌++◌, Bool, true, false, ◌||◌, not, ◌&&◌, bytes_eq, Option, Some, None, slice_get}

-- whether the table has the text
abbrev pub is_among : List (List ℕ) → List ℕ → Bool
is_among [] w = false
is_among (x ∷ xs) w = bytes_eq x w || is_among xs w

-- the table with the text, which goes last if it is new
abbrev pub with_text : List (List ℕ) → List ℕ → List (List ℕ)
with_text names w = elim (is_among names w) [ true ↦ names | false ↦ names ++ w ∷ [] ]

-- the index of a text in the table; the length of the table if the text is not there
abbrev pub name_of : List (List ℕ) → List ℕ → ℕ
name_of [] w = 0
name_of (x ∷ xs) w = elim (bytes_eq x w) [ true ↦ 0 | false ↦ suc (name_of xs w) ]

-- whether no text is twice in the table
abbrev pub is_distinct : List (List ℕ) → Bool
is_distinct [] = true
is_distinct (x ∷ xs) = not (is_among xs x) && is_distinct xs

-- the text, or the empty text if there is none
abbrev pub text_or_none : Option (List ℕ) → List ℕ
text_or_none None = []
text_or_none (Some w) = w

-- the text with this number in the table; the empty text if there is no such number
abbrev pub text_at : List (List ℕ) → ℕ → List ℕ
text_at names n = text_or_none (slice_get names n)
