use Rattle.std.proofs.Common.{◌≡◌, Bool, false, length}
use Rattle.text_scan.specs.Text.{Text}
use Rattle.pool_syntax.specs.TreeOf.{program_of}
use Rattle.pool_semantics.specs.PlainOf.{is_spent}
use Rattle.stream_check.specs.Progress.{HasRead}
use Rattle.stream_check.proofs.WholeLines.{Reading}
use Rattle.stream_check.proofs.judge.Judge.read.Given as goal

-- the bytes of the piece so far are read, and the text has what they write
abbrev pub invariant-lines : goal.invariant-lines
invariant-lines l =
    record {
      fresh : is_spent l.self.lines.filling.plain ≡ false;
      reading : (fills : Bool) (s : Text) → HasRead fills (program_of l.program.program.now) l.names s l.initial.self → Reading fills (program_of l.program.program.now) l.names s l.piece l.rest l.initial.text.items l.text.items l.self;
    }

abbrev pub decreases-lines : goal.decreases-lines
decreases-lines l = length l.rest
