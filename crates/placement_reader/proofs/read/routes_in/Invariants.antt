use Rattle.std.proofs.Common.{◌≡◌, ◌++◌, drop}
use Rattle.placement_reader.specs.Forms.{routes_of}
use Rattle.placement_reader.proofs.read.routes_in.Given as goal

-- the routes so far and those that are left are all
abbrev pub invariant-loop-form : goal.invariant-loop-form
invariant-loop-form l = l.routes ++ routes_of (drop l.form-index l.forms) ≡ routes_of l.forms
