use Rattle.std.proofs.Common.{◌≡◌, drop}
use Rattle.run_types.specs.Paths.{route_of}
use Rattle.placement_reader.specs.Forms.{routes_of}
use Rattle.placement_reader.proofs.forms.route_in.Given as goal

-- no line so far leads what is for the goal at the node
abbrev pub invariant-loop-form : goal.invariant-loop-form
invariant-loop-form l = route_of (routes_of (drop l.form-index l.forms)) l.at l.goal ≡ route_of (routes_of l.forms) l.at l.goal
