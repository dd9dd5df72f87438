use Rattle.std.proofs.Common.{◌-◌, length}
use Rattle.object_interp.proofs.SilentSteps.{SettlingIn}
use Rattle.object_interp.proofs.moves.settle_in.Given as goal

abbrev pub invariant-loop-turn : goal.invariant-loop-turn
invariant-loop-turn l = SettlingIn l.code l.initial.heap l.slot (length l.code - l._turn) l.heap
