-- The first method of the name is the first of the rest.
use Rattle.std.proofs.Common.{◌≡◌, drop}
use Rattle.code_semantics.specs.Step.{method_from}
use Rattle.object_interp.proofs.read.method_place.Given as goal

abbrev pub invariant-loop-place : goal.invariant-loop-place
invariant-loop-place l = method_from 0 l.class.methods l.name ≡ method_from l.place (drop l.place l.class.methods) l.name
