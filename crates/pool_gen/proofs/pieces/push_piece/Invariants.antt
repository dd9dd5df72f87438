use Rattle.std.proofs.Common.{◌≡◌, ◌++◌, take}
use Rattle.pool_gen.proofs.pieces.push_piece.Given as goal

-- the bytes passed so far stand behind the text
abbrev pub invariant-loop-byte : goal.invariant-loop-byte
invariant-loop-byte l = l.text ≡ l.fn.text ++ take l.byte-index l.piece
