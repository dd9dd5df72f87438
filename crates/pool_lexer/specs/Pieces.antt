-- The kind of a piece of a text, and the pieces that are runs of bytes of one set.
use Rattle.std.specs.Prelude.{◌≡◌, ℕ, ◌+◌, ◌<◌, ◌≤◌, nat_eq, true, false, ◌∷◌, length, drop, slice_range, Option, Some, None, Result, Ok, Err}
use Rattle.text_scan.specs.Text.{Text, every, is_space, is_letter, is_digit, is_word, is_integer, lookup}
use Rattle.pool_syntax.specs.Tokens.{is_string, is_piece, signs, longest, no_piece}
use Rattle.pool_syntax.specs.declared.token.LexFault.{LexFault}
use Rattle.text_scan.specs.ByteSets.{is_in}
use Rattle.text_scan.specs.declared.scan.ByteSet.{ByteSet}
use Rattle.pool_lexer.specs.declared.piece.Kind.{Kind}
use Rattle.pool_lexer.specs.declared.piece.Kind.TheVariants.{Skipped, Word, Integer, Text as Quoted, Sign}
use Rattle.pool_lexer.specs.declared.piece.Piece.{Piece}

-- the piece with this text is of this kind
abbrev pub IsKind : Kind → Text → Type 0
IsKind Skipped w = (is_word w ≡ false) × (is_integer w ≡ false) × (is_string w ≡ false) × (lookup signs w ≡ None)
IsKind Word w = is_word w ≡ true
IsKind Integer w = (is_word w ≡ false) × (is_integer w ≡ true)
IsKind Quoted w = (is_word w ≡ false) × (is_integer w ≡ false) × (is_string w ≡ true)
IsKind (Sign s) w = (is_word w ≡ false) × (is_integer w ≡ false) × (is_string w ≡ false) × (lookup signs w ≡ Some s)

-- every piece that begins with the byte is of this kind, and its further bytes are a run of this set
pub record IsRun (b : ℕ) (set : ByteSet) (kind : Kind) : Type 0 where
  pub first : is_in set b ≡ true
  pub piece : (w : Text) → is_piece (b ∷ w) ≡ every (is_in set) w
  pub kind_is : (w : Text) → every (is_in set) w ≡ true → IsKind kind (b ∷ w)

-- no run begins with the byte
pub record IsNoRun (b : ℕ) : Type 0 where
  pub white_not : is_space b ≡ false
  pub comment_not : nat_eq b 35 ≡ false
  pub word_not : is_letter b ≡ false
  pub integer_not : is_digit b ≡ false

-- the answer of `run_of` for this first byte
abbrev pub RunOf : ℕ → Option (ByteSet × Kind) → Type 0
RunOf b None = IsNoRun b
RunOf b (Some run) = IsRun b run.0 run.1

-- p is the longest piece that begins at the byte `at`
pub record IsPieceAt (bytes : Text) (at : ℕ) (p : Piece) : Type 0 where
  pub ahead : at < p.end
  pub within : p.end ≤ length bytes
  pub longest_is : p.end ≡ at + longest (drop at bytes)
  pub kind_is : IsKind p.kind (slice_range bytes at p.end)

-- the answer of `piece_at`: the longest piece at the byte `at`, or the fault if no piece begins there
abbrev pub TellsPiece : Text → ℕ → Result Piece LexFault → Type 0
TellsPiece bytes at (Ok p) = IsPieceAt bytes at p
TellsPiece bytes at (Err f) = (longest (drop at bytes) ≡ 0) × (no_piece at (drop at bytes) ≡ Some f)
