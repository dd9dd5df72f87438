use Rattle.std.proofs.Common.{drop}
use Rattle.stream_check.specs.FillProgress.{Follows}
use Rattle.stream_check.proofs.filling.Filling.judge.Given as goal

-- the lines so far were filled
abbrev pub invariant-loop-place : goal.invariant-loop-place
invariant-loop-place l = Follows l.lines (drop l.place l.lines) l.initial.self l.self
