use Rattle.object_code.proofs.ProperKnown.{proper_known}
use Rattle.object_code.proofs.theorems.proper_units_can_be_listed.Goals as goal

pub returns : goal.returns
returns c = proper_known c.args.unit.now c.requires.proper
