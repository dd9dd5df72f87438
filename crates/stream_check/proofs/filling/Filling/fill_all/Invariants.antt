use Rattle.std.proofs.Common.{drop}
use Rattle.stream_check.specs.FillProgress.{Settling}
use Rattle.stream_check.proofs.filling.Filling.fill_all.Given as goal

-- the objects so far have no local transition
abbrev pub invariant-loop-object : goal.invariant-loop-object
invariant-loop-object l = Settling (drop l.object-index l.object-items) l.fn.self l.self
