use Rattle.std.proofs.Common.{◌≡◌, drop}
use Rattle.placement_reader.specs.Forms.{class_numbered}
use Rattle.placement_reader.proofs.form.class_numbered.Given as goal

-- no class so far has the number
abbrev pub invariant-loop-place : goal.invariant-loop-place
invariant-loop-place l = class_numbered l.place l.name.0 (drop l.place l.classes) ≡ class_numbered 0 l.name.0 l.classes
