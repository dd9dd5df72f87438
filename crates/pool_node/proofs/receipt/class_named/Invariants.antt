use Rattle.std.proofs.Common.{◌≡◌, drop}
use Rattle.code_semantics.specs.Step.{class_from}
use Rattle.pool_node.proofs.receipt.class_named.Given as goal

abbrev pub invariant-loop-place : goal.invariant-loop-place
invariant-loop-place l = class_from l.place (drop l.place l.classes) l.class ≡ class_from 0 l.classes l.class
