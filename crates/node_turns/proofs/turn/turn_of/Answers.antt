use Rattle.std.proofs.Common.{sym, ◌∙◌}
use Rattle.node_turns.proofs.NodeAct.{idle_acts}
use Rattle.node_turns.proofs.turn.turn_of.Goals as goal

pub returns-in-None-clause-act : goal.returns-in-None-clause-act
returns-in-None-clause-act c =
    idle_acts c.args.plan.now.unit.now c.args.plan.now.placement.now c.args.quantum c.args.plan.now.leaving c.args.parts.now c.requires.unit (sym c.slot_in_turn.ensures ∙ c.in-None.is)
