use Rattle.std.proofs.Common.{◌≡◌, drop}
use Rattle.code_semantics.specs.Step.{method_from}
use Rattle.code_verifier.proofs.classes.method_place.Given as goal

-- the methods so far have other names
abbrev pub invariant-loop-i : goal.invariant-loop-i
invariant-loop-i l = method_from l.i (drop l.i l.methods) l.name ≡ method_from 0 l.methods l.name
