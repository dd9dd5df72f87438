-- The effect of reading one piece of a text: its token, its fault, and the new table of texts.
use Rattle.std.specs.Prelude.{◌≡◌, ℕ, ◌+◌, ◌<◌, ◌≤◌, List, [], ◌∷◌, ◌++◌, length, take, drop, Option, Some, None, Result, Ok, Err}
use Rattle.run_types.specs.Table.{with_text}
use Rattle.text_scan.specs.Text.{Text}
use Rattle.pool_syntax.specs.Tokens.{longest, piece_fault, fault_of, kept_text, token_of}
use Rattle.pool_syntax.specs.declared.token.LexFault.{LexFault}
use Rattle.pool_syntax.specs.declared.token.LexFault.TheVariants.{Memory, BadByte, IntegerTooLarge, OpenString, TooLong}
use Rattle.pool_syntax.specs.declared.token.Tok.{Tok}
use Rattle.pool_syntax.specs.declared.token.Token.{Token}
use Rattle.pool_lexer.specs.declared.table.Tokens.{Tokens}

-- the table with the text of a piece, if the piece has one
abbrev pub with_kept : List Text → Text → List Text
with_kept names w = elim (kept_text w) [ None ↦ names | Some x ↦ with_text names x ]

-- a faultless piece was read: its token, and the table after it
pub record IsRead (at : ℕ) (w : Text) (old new : List Text) (t : Option Tok) : Type 0 where
  pub faultless : piece_fault at w ≡ None
  pub names_are : new ≡ with_kept old w
  pub token_is : t ≡ token_of old w

-- the reported fault is the true one, unless memory ran out
abbrev pub ReportsFault : LexFault → Option LexFault → Type 0
ReportsFault Memory told = Unit {0}
ReportsFault (BadByte at) told = told ≡ Some (BadByte at)
ReportsFault (IntegerTooLarge at) told = told ≡ Some (IntegerTooLarge at)
ReportsFault (OpenString at) told = told ≡ Some (OpenString at)
ReportsFault (TooLong at) told = told ≡ Some (TooLong at)

-- the answer for a piece that begins at the byte `at`: its token or its fault
abbrev pub TellsToken : {A : Type 0} → (A → Option Tok) → ℕ → Text → List Text → List Text → Result A LexFault → Type 0
TellsToken as_token at w old new (Ok t) = IsRead at w old new (as_token t)
TellsToken as_token at w old new (Err f) = ReportsFault f (piece_fault at w)

-- the token with its position, if there is one
abbrev pub placed_at : ℕ → Option Tok → List Token
placed_at at None = []
placed_at at (Some t) = record { tok = t; at = at } ∷ []

-- the longest piece at the byte `at` was read, and its token was appended
pub record IsStep (bytes : Text) (at : ℕ) (old new : Tokens) (next : ℕ) : Type 0 where
  pub ahead : at < next
  pub within : next ≤ length bytes
  pub next_is : next ≡ at + longest (drop at bytes)
  pub faultless : piece_fault at (take (longest (drop at bytes)) (drop at bytes)) ≡ None
  pub names_are : new.names ≡ with_kept old.names (take (longest (drop at bytes)) (drop at bytes))
  pub list_is : new.list ≡ old.list ++ placed_at at (token_of old.names (take (longest (drop at bytes)) (drop at bytes)))

-- the answer of `read_piece`: where the piece ends, or the fault
abbrev pub TellsStep : Text → ℕ → Tokens → Tokens → Result ℕ LexFault → Type 0
TellsStep bytes at old new (Ok next) = IsStep bytes at old new next
TellsStep bytes at old new (Err f) = ReportsFault f (fault_of at (drop at bytes))
