-- The texts of keywords and signs are pieces before a space or a line feed, and give these keywords and signs again.
use Rattle.std.proofs.Common.{◌≡◌, ◌≢◌, refl, ℕ, ◌≤◌, Bool, true, false, nat_eq, List, [], ◌∷◌, ◌++◌, length, Some, None, arith}
use Rattle.std.specs.List.{prefix_len}
use Rattle.std.proofs.lemmas.Bool.Decides.{nat_tests}
use Rattle.text_scan.specs.Text.{Text, is_space, is_letter, is_digit, lookup}
use Rattle.pool_syntax.specs.Tokens.{longest, piece_fault, signs, token_of}
use Rattle.text_scan.specs.declared.keywords.Keyword.{Keyword}
use Rattle.text_scan.specs.declared.keywords.Keyword.TheVariants as word
use Rattle.pool_syntax.specs.declared.token.Sign.{Sign}
use Rattle.pool_syntax.specs.declared.token.Sign.TheVariants as sign
use Rattle.pool_syntax.specs.declared.token.Tok.TheVariants as tok
use Rattle.pool_lexer.specs.Pieces.{IsNoRun}
use Rattle.pool_lexer.proofs.Laws.{longest_narrow, longest_wide}
use Rattle.text_scan.specs.Keywords.{keyword_text}
use Rattle.pool_syntax.specs.Spelling.{sign_text}
use Rattle.pool_printer.proofs.LongestPieces.{Stands, gap_byte, word_stands}

pub keyword_stands : (k : Keyword) → Stands (keyword_text k)
keyword_stands word.Class = word_stands _ refl (omega arith)
keyword_stands word.Var = word_stands _ refl (omega arith)
keyword_stands word.Method = word_stands _ refl (omega arith)
keyword_stands word.Local = word_stands _ refl (omega arith)
keyword_stands word.Begin = word_stands _ refl (omega arith)
keyword_stands word.Result = word_stands _ refl (omega arith)
keyword_stands word.Post = word_stands _ refl (omega arith)
keyword_stands word.End = word_stands _ refl (omega arith)
keyword_stands word.Body = word_stands _ refl (omega arith)
keyword_stands word.If = word_stands _ refl (omega arith)
keyword_stands word.Then = word_stands _ refl (omega arith)
keyword_stands word.Else = word_stands _ refl (omega arith)
keyword_stands word.Fi = word_stands _ refl (omega arith)
keyword_stands word.While = word_stands _ refl (omega arith)
keyword_stands word.Do = word_stands _ refl (omega arith)
keyword_stands word.Od = word_stands _ refl (omega arith)
keyword_stands word.Answer = word_stands _ refl (omega arith)
keyword_stands word.Select = word_stands _ refl (omega arith)
keyword_stands word.When = word_stands _ refl (omega arith)
keyword_stands word.Write = word_stands _ refl (omega arith)
keyword_stands word.New = word_stands _ refl (omega arith)
keyword_stands word.SelfWord = word_stands _ refl (omega arith)
keyword_stands word.Nil = word_stands _ refl (omega arith)
keyword_stands word.True = word_stands _ refl (omega arith)
keyword_stands word.False = word_stands _ refl (omega arith)
keyword_stands word.Not = word_stands _ refl (omega arith)
keyword_stands word.And = word_stands _ refl (omega arith)
keyword_stands word.Or = word_stands _ refl (omega arith)
keyword_stands word.Int = word_stands _ refl (omega arith)
keyword_stands word.Bool = word_stands _ refl (omega arith)

pub keyword_again : (names : List Text) (k : Keyword) → token_of names (keyword_text k) ≡ Some (tok.Word k)
keyword_again names word.Class = refl
keyword_again names word.Var = refl
keyword_again names word.Method = refl
keyword_again names word.Local = refl
keyword_again names word.Begin = refl
keyword_again names word.Result = refl
keyword_again names word.Post = refl
keyword_again names word.End = refl
keyword_again names word.Body = refl
keyword_again names word.If = refl
keyword_again names word.Then = refl
keyword_again names word.Else = refl
keyword_again names word.Fi = refl
keyword_again names word.While = refl
keyword_again names word.Do = refl
keyword_again names word.Od = refl
keyword_again names word.Answer = refl
keyword_again names word.Select = refl
keyword_again names word.When = refl
keyword_again names word.Write = refl
keyword_again names word.New = refl
keyword_again names word.SelfWord = refl
keyword_again names word.Nil = refl
keyword_again names word.True = refl
keyword_again names word.False = refl
keyword_again names word.Not = refl
keyword_again names word.And = refl
keyword_again names word.Or = refl
keyword_again names word.Int = refl
keyword_again names word.Bool = refl

-- a sign of one byte

apart : (b : ℕ) → nat_eq b 34 ≡ false → b ≢ 34
apart b h e = grind (arith, nat_tests)

no_run : (b : ℕ) → is_space b ≡ false → nat_eq b 35 ≡ false → is_letter b ≡ false → is_digit b ≡ false → IsNoRun b
no_run b white comment word integer = record { white_not = white; comment_not = comment; word_not = word; integer_not = integer }

narrow : (b : ℕ) (s : Sign) (plain : IsNoRun b) (no_quote : b ≢ 34) → lookup signs (b ∷ 10 ∷ []) ≡ None → lookup signs (b ∷ 32 ∷ []) ≡ None → lookup signs (b ∷ []) ≡ Some s → (k : Bool) (rest : Text) → longest (b ∷ gap_byte k ∷ rest) ≡ 1
narrow b s plain no_quote feed space one true rest = longest_narrow b (10 ∷ rest) plain no_quote s feed one
narrow b s plain no_quote feed space one false rest = longest_narrow b (32 ∷ rest) plain no_quote s space one

-- a sign of two bytes
wide : (b c : ℕ) (s : Sign) (plain : IsNoRun b) (no_quote : b ≢ 34) → lookup signs (b ∷ c ∷ []) ≡ Some s → (k : Bool) (rest : Text) → longest (b ∷ c ∷ gap_byte k ∷ rest) ≡ 2
wide b c s plain no_quote two k rest = longest_wide b (c ∷ gap_byte k ∷ rest) plain no_quote s two

sign_longest : (s : Sign) (k : Bool) (rest : Text) → longest (sign_text s ++ gap_byte k ∷ rest) ≡ length (sign_text s)
sign_longest sign.Becomes = wide 58 61 sign.Becomes (no_run 58 refl refl refl refl) (apart 58 refl) refl
sign_longest sign.Colon = narrow 58 sign.Colon (no_run 58 refl refl refl refl) (apart 58 refl) refl refl refl
sign_longest sign.Semicolon = narrow 59 sign.Semicolon (no_run 59 refl refl refl refl) (apart 59 refl) refl refl refl
sign_longest sign.Comma = narrow 44 sign.Comma (no_run 44 refl refl refl refl) (apart 44 refl) refl refl refl
sign_longest sign.LeftParen = narrow 40 sign.LeftParen (no_run 40 refl refl refl refl) (apart 40 refl) refl refl refl
sign_longest sign.RightParen = narrow 41 sign.RightParen (no_run 41 refl refl refl refl) (apart 41 refl) refl refl refl
sign_longest sign.Bang = narrow 33 sign.Bang (no_run 33 refl refl refl refl) (apart 33 refl) refl refl refl
sign_longest sign.BangBang = wide 33 33 sign.BangBang (no_run 33 refl refl refl refl) (apart 33 refl) refl
sign_longest sign.Equal = wide 61 61 sign.Equal (no_run 61 refl refl refl refl) (apart 61 refl) refl
sign_longest sign.Differs = wide 33 61 sign.Differs (no_run 33 refl refl refl refl) (apart 33 refl) refl
sign_longest sign.Less = narrow 60 sign.Less (no_run 60 refl refl refl refl) (apart 60 refl) refl refl refl
sign_longest sign.LessEq = wide 60 61 sign.LessEq (no_run 60 refl refl refl refl) (apart 60 refl) refl
sign_longest sign.More = narrow 62 sign.More (no_run 62 refl refl refl refl) (apart 62 refl) refl refl refl
sign_longest sign.MoreEq = wide 62 61 sign.MoreEq (no_run 62 refl refl refl refl) (apart 62 refl) refl
sign_longest sign.Plus = narrow 43 sign.Plus (no_run 43 refl refl refl refl) (apart 43 refl) refl refl refl
sign_longest sign.Minus = narrow 45 sign.Minus (no_run 45 refl refl refl refl) (apart 45 refl) refl refl refl
sign_longest sign.Star = narrow 42 sign.Star (no_run 42 refl refl refl refl) (apart 42 refl) refl refl refl
sign_longest sign.Slash = narrow 47 sign.Slash (no_run 47 refl refl refl refl) (apart 47 refl) refl refl refl
sign_longest sign.Percent = narrow 37 sign.Percent (no_run 37 refl refl refl refl) (apart 37 refl) refl refl refl

sign_stands_by : (w : Text) → 1 ≤ length w → ((rest : Text) → prefix_len is_space (w ++ rest) ≡ 0) → piece_fault 0 w ≡ None → ((k : Bool) (rest : Text) → longest (w ++ gap_byte k ∷ rest) ≡ length w) → Stands w
sign_stands_by w some begins plain is = record { some = some; begins = begins; longest_is = is; faultless = plain }

pub sign_stands : (s : Sign) → Stands (sign_text s)
sign_stands sign.Becomes = sign_stands_by _ (omega arith) (λ rest. refl) refl (sign_longest sign.Becomes)
sign_stands sign.Colon = sign_stands_by _ (omega arith) (λ rest. refl) refl (sign_longest sign.Colon)
sign_stands sign.Semicolon = sign_stands_by _ (omega arith) (λ rest. refl) refl (sign_longest sign.Semicolon)
sign_stands sign.Comma = sign_stands_by _ (omega arith) (λ rest. refl) refl (sign_longest sign.Comma)
sign_stands sign.LeftParen = sign_stands_by _ (omega arith) (λ rest. refl) refl (sign_longest sign.LeftParen)
sign_stands sign.RightParen = sign_stands_by _ (omega arith) (λ rest. refl) refl (sign_longest sign.RightParen)
sign_stands sign.Bang = sign_stands_by _ (omega arith) (λ rest. refl) refl (sign_longest sign.Bang)
sign_stands sign.BangBang = sign_stands_by _ (omega arith) (λ rest. refl) refl (sign_longest sign.BangBang)
sign_stands sign.Equal = sign_stands_by _ (omega arith) (λ rest. refl) refl (sign_longest sign.Equal)
sign_stands sign.Differs = sign_stands_by _ (omega arith) (λ rest. refl) refl (sign_longest sign.Differs)
sign_stands sign.Less = sign_stands_by _ (omega arith) (λ rest. refl) refl (sign_longest sign.Less)
sign_stands sign.LessEq = sign_stands_by _ (omega arith) (λ rest. refl) refl (sign_longest sign.LessEq)
sign_stands sign.More = sign_stands_by _ (omega arith) (λ rest. refl) refl (sign_longest sign.More)
sign_stands sign.MoreEq = sign_stands_by _ (omega arith) (λ rest. refl) refl (sign_longest sign.MoreEq)
sign_stands sign.Plus = sign_stands_by _ (omega arith) (λ rest. refl) refl (sign_longest sign.Plus)
sign_stands sign.Minus = sign_stands_by _ (omega arith) (λ rest. refl) refl (sign_longest sign.Minus)
sign_stands sign.Star = sign_stands_by _ (omega arith) (λ rest. refl) refl (sign_longest sign.Star)
sign_stands sign.Slash = sign_stands_by _ (omega arith) (λ rest. refl) refl (sign_longest sign.Slash)
sign_stands sign.Percent = sign_stands_by _ (omega arith) (λ rest. refl) refl (sign_longest sign.Percent)

pub sign_again : (names : List Text) (s : Sign) → token_of names (sign_text s) ≡ Some (tok.Sign s)
sign_again names sign.Becomes = refl
sign_again names sign.Colon = refl
sign_again names sign.Semicolon = refl
sign_again names sign.Comma = refl
sign_again names sign.LeftParen = refl
sign_again names sign.RightParen = refl
sign_again names sign.Bang = refl
sign_again names sign.BangBang = refl
sign_again names sign.Equal = refl
sign_again names sign.Differs = refl
sign_again names sign.Less = refl
sign_again names sign.LessEq = refl
sign_again names sign.More = refl
sign_again names sign.MoreEq = refl
sign_again names sign.Plus = refl
sign_again names sign.Minus = refl
sign_again names sign.Star = refl
sign_again names sign.Slash = refl
sign_again names sign.Percent = refl
