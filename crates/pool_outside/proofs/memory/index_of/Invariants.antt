use Rattle.std.proofs.Common.{◌≡◌, drop}
use Rattle.pool_outside.specs.Memory.{text_under}
use Rattle.pool_outside.proofs.memory.index_of.Given as goal

-- no text so far has the name
abbrev pub invariant-loop-i : goal.invariant-loop-i
invariant-loop-i l = text_under (drop l.i l.texts) l.name ≡ text_under l.texts l.name
