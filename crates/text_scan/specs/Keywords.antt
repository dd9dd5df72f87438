-- The keywords of the language with their texts, the names, which are the other words, and the strings.
use Rattle.std.specs.Prelude.{ℕ, List, codes, [], ◌∷◌, map, length, slice_get, Option, Some, None, Bool, false, not, ◌&&◌, nat_le}
use Rattle.text_scan.specs.declared.keywords.Keyword.{Keyword}
use Rattle.text_scan.specs.declared.keywords.Keyword.TheVariants as word
use Rattle.text_scan.specs.Text.{Text, is_listed, is_word, every, is_inner}

-- the text of a keyword
abbrev pub keyword_text : Keyword → List ℕ
keyword_text word.Class = codes "class"
keyword_text word.Var = codes "var"
keyword_text word.Method = codes "method"
keyword_text word.Local = codes "local"
keyword_text word.Begin = codes "begin"
keyword_text word.Result = codes "result"
keyword_text word.Post = codes "post"
keyword_text word.End = codes "end"
keyword_text word.Body = codes "body"
keyword_text word.If = codes "if"
keyword_text word.Then = codes "then"
keyword_text word.Else = codes "else"
keyword_text word.Fi = codes "fi"
keyword_text word.While = codes "while"
keyword_text word.Do = codes "do"
keyword_text word.Od = codes "od"
keyword_text word.Answer = codes "answer"
keyword_text word.Select = codes "select"
keyword_text word.When = codes "when"
keyword_text word.Write = codes "write"
keyword_text word.New = codes "new"
keyword_text word.SelfWord = codes "self"
keyword_text word.Nil = codes "nil"
keyword_text word.True = codes "true"
keyword_text word.False = codes "false"
keyword_text word.Not = codes "not"
keyword_text word.And = codes "and"
keyword_text word.Or = codes "or"
keyword_text word.Int = codes "Int"
keyword_text word.Bool = codes "Bool"

-- the keywords, each under its text
abbrev pub keywords : List (Text × Keyword)
keywords = map (λ k. (keyword_text k, k)) (
    word.Class ∷ word.Var ∷ word.Method ∷ word.Local ∷ word.Begin ∷ word.Result ∷ word.Post ∷ word.End ∷ word.Body ∷ word.If ∷ word.Then ∷
    word.Else ∷ word.Fi ∷ word.While ∷ word.Do ∷ word.Od ∷ word.Answer ∷ word.Select ∷ word.When ∷ word.Write ∷ word.New ∷ word.SelfWord ∷
    word.Nil ∷ word.True ∷ word.False ∷ word.Not ∷ word.And ∷ word.Or ∷ word.Int ∷ word.Bool ∷ []
    )

-- whether a text is a name of the language: a word of at most 64 bytes that is no keyword
abbrev pub is_name_text : Text → Bool
is_name_text w = is_word w && not (is_listed keywords w) && nat_le (length w) 64

-- whether a text may be the inside of a string: at most 256 printable bytes without a quote
abbrev pub is_string_text : Text → Bool
is_string_text w = every is_inner w && nat_le (length w) 256

-- the test on a text, which fails if there is none
abbrev pub text_passes : (Text → Bool) → Option Text → Bool
text_passes test None = false
text_passes test (Some w) = test w

-- whether the text with this number in the table is a name
abbrev pub is_name : List Text → ℕ → Bool
is_name names n = text_passes is_name_text (slice_get names n)

-- whether the text with this number in the table may be a string
abbrev pub is_string_number : List Text → ℕ → Bool
is_string_number names n = text_passes is_string_text (slice_get names n)
