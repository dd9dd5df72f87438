use Rattle.std.proofs.Common.{◌<◌, Some, sym, ap, ◌∙◌, arith}
use Rattle.placement_reader.proofs.FaultlessForms.{spot_at}
use Rattle.placement_reader.proofs.read.place_in.Goals as goal
use Rattle.placement_reader.proofs.read.place_in.Goals.{In-Some-At}

there : (c : In-Some-At) → c.in-Some-At.node < c.args.nodes
there c =
    spot_at c.args.nodes c.args.class c.in-Some-At.node c.args.forms.now c.requires.fine
    (sym c.spot_in.ensures ∙ (c.in-Some-At.is ∙ ap Some c.in-Some-At.field-0-is))

pub overflow_cast-result : goal.overflow_cast-result
overflow_cast-result c = omega (arith, there ((goal.at.overflow_cast-result c).In-Some-At))

pub returns-in-Some-At-clause-there : goal.returns-in-Some-At-clause-there
returns-in-Some-At-clause-there c = there ((goal.at.returns-in-Some-At-clause-there c).In-Some-At)
