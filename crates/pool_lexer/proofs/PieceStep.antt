-- The step that reads one piece of a text.
use Rattle.std.proofs.Common.{◌≡◌, ℕ, suc, ◌-◌, ◌<◌, take, drop, slice_range, Option, ◌++◌, List, sym, ap, ◌∙◌, arith}
use Rattle.text_scan.specs.Text.{Text}
use Rattle.pool_syntax.specs.Tokens.{longest, piece_fault, fault_of}
use Rattle.pool_syntax.specs.declared.token.LexFault.{LexFault}
use Rattle.pool_syntax.specs.declared.token.Tok.{Tok}
use Rattle.pool_lexer.specs.declared.piece.Piece.{Piece}
use Rattle.pool_lexer.specs.declared.table.Tokens.{Tokens}
use Rattle.pool_lexer.specs.Pieces.{IsPieceAt}
use Rattle.pool_lexer.specs.Reading.{IsRead, ReportsFault, IsStep, placed_at}

-- the fault at the front of a text where a piece begins
fault_at : (at n : ℕ) (s : Text) → longest s ≡ suc n → fault_of at s ≡ piece_fault at (take (longest s) s)
fault_at at n s e = rw (fault_of, e) (rw e)

pub some_fault_at : (at : ℕ) (s : Text) → 0 < longest s → fault_of at s ≡ piece_fault at (take (longest s) s)
some_fault_at at s some = fault_at at (longest s - 1) s (omega arith)

module _ (bytes : Text) (at : ℕ) (p : Piece) (piece : IsPieceAt bytes at p) where
  text_is : slice_range bytes at p.end ≡ take (longest (drop at bytes)) (drop at bytes)
  text_is = let n : p.end - at ≡ longest (drop at bytes) = omega arith in rw n

  pub step_is : (old new : Tokens) (names : List Text) (t u : Option Tok) → IsRead at (slice_range bytes at p.end) old.names names t → t ≡ u → new.names ≡ names → new.list ≡ old.list ++ placed_at at u → IsStep bytes at old new p.end
  step_is old new names t u read same named listed =
      let here = rw text_is at read in
      record {
        ahead = piece.ahead;
        within = piece.within;
        next_is = piece.longest_is;
        faultless = here.faultless;
        names_are = named ∙ here.names_are;
        list_is = listed ∙ ap (λ o. old.list ++ placed_at at o) (sym same ∙ here.token_is);
      }

  pub fault_is : (f : LexFault) → ReportsFault f (piece_fault at (slice_range bytes at p.end)) → ReportsFault f (fault_of at (drop at bytes))
  fault_is f told =
      let some : 0 < longest (drop at bytes) = omega arith in
      rw (some_fault_at at (drop at bytes) some) (rw text_is at told)
