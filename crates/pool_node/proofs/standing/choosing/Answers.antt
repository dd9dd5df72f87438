use Rattle.std.proofs.Common.{sym, ap, ◌∙◌, is_some, Option, ℕ}
use Rattle.node_heap.specs.Heaps.{object_at}
use Rattle.slot_queues.specs.Mail.{box_of}
use Rattle.pool_node.specs.Standings.{chosen_standing}
use Rattle.node_state.proofs.Laws.{slot_real, can_choose}
use Rattle.pool_node.proofs.standing.choosing.Goals as goal

pub first_possible-requires-clause-fits : goal.first_possible-requires-clause-fits
first_possible-requires-clause-fits c = (slot_real c.args.unit.now c.args.parts.now c.requires.unit c.args.slot c.requires.slot).fits

pub returns-then-is_some : goal.returns-then-is_some
returns-then-is_some c =
    ap chosen_standing (sym c.if-is_some.true ∙ (c.is_some.ensures ∙ (ap (λ (o : Option ℕ). is_some o) c.first_possible.ensures
    ∙ can_choose c.args.unit.now (object_at c.args.parts.now.heap c.args.slot) (box_of c.args.parts.now.mailbox c.args.slot) c.requires.choosing)))

pub returns-else-is_some : goal.returns-else-is_some
returns-else-is_some c =
    ap chosen_standing (sym c.if-is_some.false ∙ (c.is_some.ensures ∙ (ap (λ (o : Option ℕ). is_some o) c.first_possible.ensures
    ∙ can_choose c.args.unit.now (object_at c.args.parts.now.heap c.args.slot) (box_of c.args.parts.now.mailbox c.args.slot) c.requires.choosing)))
