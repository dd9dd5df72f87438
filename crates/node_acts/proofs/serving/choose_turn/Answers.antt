use Rattle.node_state.proofs.Laws.{slot_real}
use Rattle.node_acts.proofs.serving.choose_turn.Goals as goal

pub first_possible-requires-clause-fits : goal.first_possible-requires-clause-fits
first_possible-requires-clause-fits c = (slot_real c.args.plan.now.unit.now c.args.parts.now c.requires.set.unit c.args.slot c.requires.slot).fits
