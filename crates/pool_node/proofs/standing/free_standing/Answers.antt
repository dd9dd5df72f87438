use Rattle.std.proofs.Common.{sym, ap, ◌∙◌}
use Rattle.code_semantics.specs.Kinds.{code_kind}
use Rattle.node_heap.specs.Heaps.{object_at}
use Rattle.object_interp.specs.declared.types.Need.{Need}
use Rattle.object_interp.specs.declared.types.Hand.TheVariants as H
use Rattle.node_state.proofs.Laws.{slot_real, hand_answer, hand_select, selecting_chooses}
use Rattle.pool_node.proofs.NodeReport.{chosen, finished}
use Rattle.pool_node.proofs.standing.free_standing.Goals as goal

pub at_hand-requires-clause-fits : goal.at_hand-requires-clause-fits
at_hand-requires-clause-fits c = (slot_real c.args.unit.now c.args.parts.now c.requires.unit c.args.slot c.requires.slot).fits

pub at_hand-requires-clause-rests : goal.at_hand-requires-clause-rests
at_hand-requires-clause-rests c = (slot_real c.args.unit.now c.args.parts.now c.requires.unit c.args.slot c.requires.slot).rests

pub returns-in-At-Halted : goal.returns-in-At-Halted
returns-in-At-Halted c = finished c.args.unit.now c.args.parts.now c.args.slot c.requires.free c.requires.fault (sym (c.in-At-Halted.is ∙ ap (λ (d : Need). H.At d) c.in-At-Halted.field-0-is) ∙ c.at_hand.ensures)

pub choosing-requires-clause-choosing : goal.choosing-requires-clause-choosing
choosing-requires-clause-choosing c = hand_answer c.args.unit.now (code_kind c.args.unit.now (object_at c.args.parts.now.heap c.args.slot)) (sym (c.in-At-Answer.is ∙ ap (λ (d : Need). H.At d) c.in-At-Answer.field-0-is) ∙ c.at_hand.ensures)

pub returns-in-At-Answer : goal.returns-in-At-Answer
returns-in-At-Answer c = chosen c.args.unit.now c.args.parts.now c.args.slot _ c.requires.free c.requires.fault (hand_answer c.args.unit.now (code_kind c.args.unit.now (object_at c.args.parts.now.heap c.args.slot)) (sym (c.in-At-Answer.is ∙ ap (λ (d : Need). H.At d) c.in-At-Answer.field-0-is) ∙ c.at_hand.ensures)) c.choosing.ensures

pub choosing-requires-in-At-Select-clause-choosing : goal.choosing-requires-in-At-Select-clause-choosing
choosing-requires-in-At-Select-clause-choosing c = selecting_chooses (code_kind c.args.unit.now (object_at c.args.parts.now.heap c.args.slot)) (hand_select c.args.unit.now (code_kind c.args.unit.now (object_at c.args.parts.now.heap c.args.slot)) (sym (c.in-At-Select.is ∙ ap (λ (d : Need). H.At d) c.in-At-Select.field-0-is) ∙ c.at_hand.ensures))

pub returns-in-At-Select : goal.returns-in-At-Select
returns-in-At-Select c = chosen c.args.unit.now c.args.parts.now c.args.slot _ c.requires.free c.requires.fault (selecting_chooses (code_kind c.args.unit.now (object_at c.args.parts.now.heap c.args.slot)) (hand_select c.args.unit.now (code_kind c.args.unit.now (object_at c.args.parts.now.heap c.args.slot)) (sym (c.in-At-Select.is ∙ ap (λ (d : Need). H.At d) c.in-At-Select.field-0-is) ∙ c.at_hand.ensures))) c.choosing-in-At-Select.ensures
