use Rattle.run_record.proofs.LineRequests.{AreAsked}
use Rattle.run_record.proofs.posts.asks_of.Given as goal

-- the numbers so far and those of the lines that are left are all
abbrev pub invariant-loop-line : goal.invariant-loop-line
invariant-loop-line l = AreAsked l.lines l.line-index l.posts l.numbers
