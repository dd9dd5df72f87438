use Rattle.std.proofs.Common.{◌≡◌, drop}
use Rattle.code_semantics.specs.Step.{method_from}
use Rattle.code_verifier.proofs.classes.find_method.Given as goal

-- the methods so far have other names
abbrev pub invariant-loop-place : goal.invariant-loop-place
invariant-loop-place l = method_from l.place (drop l.place l.methods) l.name ≡ method_from 0 l.methods l.name
