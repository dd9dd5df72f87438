use Rattle.std.proofs.Common.{length}
use Rattle.run_record.proofs.ParsedLines.{AreLeft}
use Rattle.run_record.proofs.read.read_record.Given as goal

-- what the lines so far and those that are left say is what all say
abbrev pub invariant-lines : goal.invariant-lines
invariant-lines l = AreLeft l.bytes l.initial.names l.start.form l.posts l.seen l.last l.ended l.text l.names l.lines

abbrev pub decreases-lines : goal.decreases-lines
decreases-lines l = length l.text
