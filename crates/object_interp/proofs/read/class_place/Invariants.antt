-- The first class of the name is the first of the rest.
use Rattle.std.proofs.Common.{◌≡◌, drop}
use Rattle.code_semantics.specs.Step.{class_from}
use Rattle.object_interp.proofs.read.class_place.Given as goal

abbrev pub invariant-loop-place : goal.invariant-loop-place
invariant-loop-place l = class_from 0 l.unit.classes l.name ≡ class_from l.place (drop l.place l.unit.classes) l.name
