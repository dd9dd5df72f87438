use Rattle.std.proofs.Common.{◌≡◌, drop}
use Rattle.run_types.specs.Paths.{is_cut}
use Rattle.placement_reader.specs.Forms.{cuts_of}
use Rattle.placement_reader.proofs.forms.is_cut.Given as goal

-- no line so far cuts the link
abbrev pub invariant-loop-form : goal.invariant-loop-form
invariant-loop-form l = is_cut (cuts_of (drop l.form-index l.forms)) l.from l.to ≡ is_cut (cuts_of l.forms) l.from l.to
