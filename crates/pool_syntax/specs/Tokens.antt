-- The lexical definition of the language: how a text splits into pieces, each the longest at its place, its tokens,
-- and its first fault. Pieces are white space, comments and tokens.
use Rattle.std.specs.Prelude.{◌≡◌, ℕ, zero, suc, ◌+◌, ◌-◌, ◌≤◌, Bool, true, false, ◌&&◌, ◌||◌, not, List, [], ◌∷◌, map, length, take, drop, Option, Some, None, nat_le, nat_eq, pos}
use Rattle.std.specs.List.{AllByRecursion}
use Rattle.pool_syntax.specs.Spelling.{sign_text}
use Rattle.run_types.specs.Table.{with_text, name_of}
use Rattle.run_types.specs.declared.types.NameId.{NameId}
use Rattle.pool_syntax.specs.declared.token.Sign.{Sign}
use Rattle.pool_syntax.specs.declared.token.Sign.TheVariants as sign
use Rattle.pool_syntax.specs.declared.token.Tok.{Tok}
use Rattle.pool_syntax.specs.declared.token.Tok.TheVariants as tok
use Rattle.pool_syntax.specs.declared.token.Token.{Token}
use Rattle.pool_syntax.specs.declared.token.LexFault.{LexFault}
use Rattle.pool_syntax.specs.declared.token.LexFault.TheVariants.{BadByte, IntegerTooLarge, OpenString, TooLong}
use Rattle.text_scan.specs.Text.{Text, lookup, is_listed, every, is_space, is_word, is_integer, is_inner, value_of_digits}
use Rattle.text_scan.specs.Keywords.{keywords}

-- the signs, each under its text
abbrev pub signs : List (Text × Sign)
signs = map (λ k. (sign_text k, k)) (
    sign.Becomes ∷ sign.Colon ∷ sign.Semicolon ∷ sign.Comma ∷ sign.LeftParen ∷ sign.RightParen ∷ sign.Bang ∷ sign.BangBang ∷ sign.Equal ∷
    sign.Differs ∷ sign.Less ∷ sign.LessEq ∷ sign.More ∷ sign.MoreEq ∷ sign.Plus ∷ sign.Minus ∷ sign.Star ∷ sign.Slash ∷ sign.Percent ∷ []
    )

-- one or more white space bytes
abbrev pub is_white : Text → Bool
is_white [] = false
is_white (b ∷ bs) = every is_space (b ∷ bs)

-- a comment: `#`, followed by bytes other than a line feed
abbrev pub is_comment : Text → Bool
is_comment [] = false
is_comment (b ∷ bs) = nat_eq b 35 && every (λ c. not (nat_eq c 10)) bs

-- the inside of a string, and its closing quote
abbrev pub is_rest_of_string : Text → Bool
is_rest_of_string [] = false
is_rest_of_string (b ∷ []) = nat_eq b 34
is_rest_of_string (b ∷ c ∷ bs) = is_inner b && is_rest_of_string (c ∷ bs)

-- a string: a quote, the inside, and a quote
abbrev pub is_string : Text → Bool
is_string [] = false
is_string (b ∷ bs) = nat_eq b 34 && is_rest_of_string bs

-- whether a text is a piece: white space, a comment, a word, an integer, a string or a sign
abbrev pub is_piece : Text → Bool
is_piece w = is_white w || (is_comment w || (is_word w || (is_integer w || (is_string w || is_listed signs w))))

-- the length of the longest piece among the prefixes of at most n bytes, or 0
abbrev pub longest_within : ℕ → Text → ℕ
longest_within zero s = 0
longest_within (suc n) s = elim (is_piece (take (suc n) s)) [ true ↦ suc n | false ↦ longest_within n s ]

-- the length of the longest piece at the front of the text, or 0
abbrev pub longest : Text → ℕ
longest s = longest_within (length s) s

-- the text consists of these pieces, each the longest at its place, followed by the rest
abbrev pub IsPieces : Text → List Text → Text → Type 0
IsPieces s [] rest = s ≡ rest
IsPieces s (w ∷ ws) rest = (1 ≤ longest s) × (w ≡ take (longest s) s) × IsPieces (drop (longest s) s) ws rest

-- the fault if n exceeds the limit
abbrev if_over : ℕ → ℕ → LexFault → Option LexFault
if_over limit n fault = elim (nat_le n limit) [ true ↦ None | false ↦ Some fault ]

-- the fault of a piece that begins at the byte `at`
abbrev pub piece_fault : ℕ → Text → Option LexFault
piece_fault at w = elim (is_word w) [
  | true ↦ if_over 64 (length w) (TooLong at)
  | false ↦ elim (is_integer w) [
    | true ↦ if_over 9223372036854775807 (value_of_digits 0 w) (IntegerTooLarge at)
    | false ↦ elim (is_string w) [ true ↦ if_over 258 (length w) (TooLong at) | false ↦ None ]
  ]
]

-- the fault of a text that begins at the byte `at` with no piece
abbrev pub no_piece : ℕ → Text → Option LexFault
no_piece at [] = None
no_piece at (b ∷ bs) = elim (nat_eq b 34) [ true ↦ Some (OpenString at) | false ↦ Some (BadByte at) ]

-- the fault at the front of a text that begins at the byte `at`
abbrev pub fault_of : ℕ → Text → Option LexFault
fault_of at s = elim (longest s) [ zero ↦ no_piece at s | suc n ↦ piece_fault at (take (longest s) s) ]

-- the sum of the lengths of pieces
abbrev pub length_of : List Text → ℕ
length_of [] = 0
length_of (w ∷ ws) = length w + length_of ws

-- no piece has a fault
abbrev pub IsFaultless : List Text → Type 0
IsFaultless ws = AllByRecursion (λ w. piece_fault 0 w ≡ None) ws

-- the text begins with faultless pieces, and the fault follows directly
abbrev pub IsFirstFault : Text → LexFault → Type 0
IsFirstFault s fault = (ws : List Text) × (rest : Text) × IsPieces s ws rest × IsFaultless ws × (fault_of (length_of ws) rest ≡ Some fault)

-- the text that goes into the table: a name, or the inside of a string
abbrev pub kept_text : Text → Option Text
kept_text w = elim (is_word w) [
  | true ↦ elim (is_listed keywords w) [ true ↦ None | false ↦ Some w ]
  | false ↦ elim (is_string w) [ true ↦ Some (take (length w - 2) (drop 1 w)) | false ↦ None ]
]

-- the table `seen`, followed by the new texts of names and strings in the order in which they first occur
abbrev pub texts_after : List Text → List Text → List Text
texts_after seen [] = seen
texts_after seen (w ∷ ws) = elim (kept_text w) [
  | None ↦ texts_after seen ws
  | Some x ↦ texts_after (with_text seen x) ws
]

-- the number of a text in the table
abbrev name_id : List Text → Text → NameId
name_id names w = record { 0 = name_of names w }

-- the token of a piece; white space and comments have none
abbrev pub token_of : List Text → Text → Option Tok
token_of names w = elim (is_word w) [
  | true ↦ elim (lookup keywords w) [ Some k ↦ Some (tok.Word k) | None ↦ Some (tok.Name (name_id names w)) ]
  | false ↦ elim (is_integer w) [
    | true ↦ Some (tok.Int (pos (value_of_digits 0 w)))
    | false ↦ elim (kept_text w) [
      | Some x ↦ Some (tok.Str (name_id names x))
      | None ↦ elim (lookup signs w) [ Some s ↦ Some (tok.Sign s) | None ↦ None ]
    ]
  ]
]

-- the tokens of pieces that begin at the byte `at`, followed by `End`
abbrev pub tokens_from : List Text → ℕ → List Text → List Token
tokens_from names at [] = record { tok = tok.End; at = at } ∷ []
tokens_from names at (w ∷ ws) = elim (token_of names w) [
  | None ↦ tokens_from names (at + length w) ws
  | Some t ↦ record { tok = t; at = at } ∷ tokens_from names (at + length w) ws
]

-- the text has these tokens, and this table of the texts of its names and strings
abbrev pub HasTokens : Text → List Text → List Token → Type 0
HasTokens s names ts = (ws : List Text) × IsPieces s ws [] × IsFaultless ws × (names ≡ texts_after [] ws) × (ts ≡ tokens_from names 0 ws)

-- the tokens without their positions
abbrev pub toks : List Token → List Tok
toks ts = map (λ t. t.tok) ts
