use Rattle.std.proofs.Common.{◌≡◌, drop}
use Rattle.placement_reader.specs.Forms.{spot_in}
use Rattle.placement_reader.proofs.forms.spot_in.Given as goal

-- no line so far puts the class
abbrev pub invariant-loop-form : goal.invariant-loop-form
invariant-loop-form l = spot_in l.class (drop l.form-index l.forms) ≡ spot_in l.class l.forms
