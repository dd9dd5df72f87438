use Rattle.std.proofs.Common.{◌≡◌, drop}
use Rattle.placement_reader.specs.Forms.{number_in}
use Rattle.placement_reader.proofs.forms.number_in.Given as goal

-- no line so far gives the number
abbrev pub invariant-loop-form : goal.invariant-loop-form
invariant-loop-form l = number_in l.kind (drop l.form-index l.forms) ≡ number_in l.kind l.forms
