use Rattle.std.proofs.Common.{arith}
use Rattle.node_acts.specs.ActOf.{act_of}
use Rattle.node_turns.proofs.Laws.{made_acts}
use Rattle.pool_node.proofs.receipt.receipt_of.Goals as goal

pub received-told-requires-clause-set : goal.received-told-requires-clause-set
received-told-requires-clause-set c = record {
  whole = c.requires.whole;
  unit = c.requires.unit;
  placement = c.requires.placement;
  cells = c.requires.cells;
  frames = let e = c.requires.placement.frames in omega (arith, e);
}

pub returns-clause-act : goal.returns-clause-act
returns-clause-act c =
    (made_acts c.args.plan.now.unit.now c.args.plan.now.placement.now c.args.plan.now.leaving c.args.parts.now c.received-told.new.parts c.requires.whole c.requires.unit c.requires.placement (omega arith) _ (act_of c.received-told.result c.received-told.new.room) c.received-told.ensures).0

pub returns-clause-whole : goal.returns-clause-whole
returns-clause-whole c =
    (made_acts c.args.plan.now.unit.now c.args.plan.now.placement.now c.args.plan.now.leaving c.args.parts.now c.received-told.new.parts c.requires.whole c.requires.unit c.requires.placement (omega arith) _ (act_of c.received-told.result c.received-told.new.room) c.received-told.ensures).1

pub returns-clause-unit : goal.returns-clause-unit
returns-clause-unit c =
    (made_acts c.args.plan.now.unit.now c.args.plan.now.placement.now c.args.plan.now.leaving c.args.parts.now c.received-told.new.parts c.requires.whole c.requires.unit c.requires.placement (omega arith) _ (act_of c.received-told.result c.received-told.new.room) c.received-told.ensures).2
