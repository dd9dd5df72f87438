use Rattle.std.proofs.Common.{drop}
use Rattle.stream_check.specs.FillProgress.{Copies}
use Rattle.stream_check.proofs.filling.Filling.push_all.Given as goal

-- the lines so far were copied
abbrev pub invariant-loop-line : goal.invariant-loop-line
invariant-loop-line l = Copies l.lines (drop l.line-index l.lines) l.initial.self l.self
