use Rattle.std.proofs.Common.{sym, subst, ◌≤◌, ◌+◌}
use Rattle.run_types.specs.Tables.{Each}
use Rattle.test_parts.proofs.NodeActs.{no_step, one_more, still_driven}
use Rattle.test_parts.proofs.nodes.act_of.Goals as goal

pub returns-in-Turn : goal.returns-in-Turn
returns-in-Turn c =
    still_driven c.args.unit.now c.args.placement.now c.args.steps _ c.args.node.now c.turn.new.self _ c.requires.driven c.turn.ensures.act.2 c.turn.ensures.unit
    (c.turn.ensures.counts c.args.steps c.requires.driven.counted)

pub returns-in-Create : goal.returns-in-Create
returns-in-Create c =
    still_driven c.args.unit.now c.args.placement.now c.args.steps _ c.args.node.now c.receive.new.self _ c.requires.driven c.receive.ensures.act c.receive.ensures.unit
    (subst (Each (λ k. k ≤ c.args.steps + 1)) (sym c.receive.ensures.made) (one_more c.args.steps c.args.node.now.state.made c.requires.driven.counted))

pub returns-then-from : goal.returns-then-from
returns-then-from c = no_step c.args.unit.now c.args.placement.now c.args.steps c.args.node.now c.requires.driven

pub returns-in_default : goal.returns-in_default
returns-in_default c = no_step c.args.unit.now c.args.placement.now c.args.steps c.args.node.now c.requires.driven
