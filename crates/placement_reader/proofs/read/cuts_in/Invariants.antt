use Rattle.std.proofs.Common.{◌≡◌, ◌++◌, drop}
use Rattle.placement_reader.specs.Forms.{cuts_of}
use Rattle.placement_reader.proofs.read.cuts_in.Given as goal

-- the cuts so far and those that are left are all
abbrev pub invariant-loop-form : goal.invariant-loop-form
invariant-loop-form l = l.cuts ++ cuts_of (drop l.form-index l.forms) ≡ cuts_of l.forms
