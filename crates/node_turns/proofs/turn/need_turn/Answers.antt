use Rattle.std.proofs.Common.{sym, ap, ◌∙◌}
use Rattle.code_semantics.specs.Kinds.{code_kind}
use Rattle.node_heap.specs.Heaps.{object_at}
use Rattle.slot_queues.specs.Mail.{box_of}
use Rattle.node_semantics.specs.Node.{arrivals}
use Rattle.node_state.specs.Views.{arrivals_of}
use Rattle.object_interp.specs.declared.types.Need.{Need}
use Rattle.object_interp.specs.declared.types.Hand.TheVariants as H
use Rattle.node_state.proofs.Laws.{slot_real, hand_new, hand_answer, hand_select, selecting_chooses, can_choose}
use Rattle.node_turns.proofs.CreateStep.{class_found, class_below}
use Rattle.node_acts.proofs.Laws.{halted_rests, kind_async, kind_fault, kind_return, kind_send, kind_write}
use Rattle.node_turns.proofs.turn.need_turn.Goals as goal

pub create_turn-requires-clause-kind : goal.create_turn-requires-clause-kind
create_turn-requires-clause-kind c =
    let w = hand_new c.args.plan.now.unit.now (code_kind c.args.plan.now.unit.now (object_at c.args.parts.now.heap c.args.slot)) c.in-New.class (ap (λ (n : Need). H.At n) (sym c.in-New.is) ∙ c.requires.hand) in
    (w.0, w.1, class_found c.args.plan.now.unit.now (object_at c.args.parts.now.heap c.args.slot) (slot_real c.args.plan.now.unit.now c.args.parts.now c.requires.set.unit c.args.slot c.requires.slot).fits c.requires.set.unit.proper w.0 c.in-New.class w.1 w.2)

pub create_turn-requires-clause-class : goal.create_turn-requires-clause-class
create_turn-requires-clause-class c =
    let w = hand_new c.args.plan.now.unit.now (code_kind c.args.plan.now.unit.now (object_at c.args.parts.now.heap c.args.slot)) c.in-New.class (ap (λ (n : Need). H.At n) (sym c.in-New.is) ∙ c.requires.hand) in
    class_below c.args.plan.now.unit.now w.0 c.in-New.class (class_found c.args.plan.now.unit.now (object_at c.args.parts.now.heap c.args.slot) (slot_real c.args.plan.now.unit.now c.args.parts.now c.requires.set.unit c.args.slot c.requires.slot).fits c.requires.set.unit.proper w.0 c.in-New.class w.1 w.2)

pub choose_turn-requires-clause-possible : goal.choose_turn-requires-clause-possible
choose_turn-requires-clause-possible c =
    can_choose c.args.plan.now.unit.now (object_at c.args.parts.now.heap c.args.slot) (box_of c.args.parts.now.mailbox c.args.slot) (hand_answer c.args.plan.now.unit.now (code_kind c.args.plan.now.unit.now (object_at c.args.parts.now.heap c.args.slot)) (ap (λ (n : Need). H.At n) (sym c.in-Answer.is) ∙ c.requires.hand)) ∙ c.requires.steps

pub choose_turn-requires-in-Select-clause-possible : goal.choose_turn-requires-in-Select-clause-possible
choose_turn-requires-in-Select-clause-possible c =
    can_choose c.args.plan.now.unit.now (object_at c.args.parts.now.heap c.args.slot) (box_of c.args.parts.now.mailbox c.args.slot) (selecting_chooses _ (hand_select c.args.plan.now.unit.now (code_kind c.args.plan.now.unit.now (object_at c.args.parts.now.heap c.args.slot)) (ap (λ (n : Need). H.At n) (sym c.in-Select.is) ∙ c.requires.hand))) ∙ c.requires.steps

pub call_turn-requires-clause-kind : goal.call_turn-requires-clause-kind
call_turn-requires-clause-kind c = kind_send c.args.plan.now.unit.now (code_kind c.args.plan.now.unit.now (object_at c.args.parts.now.heap c.args.slot)) c.in-Send.to c.in-Send.method c.in-Send.args (ap (λ (n : Need). H.At n) (sym c.in-Send.is) ∙ c.requires.hand)

pub async_turn-requires-clause-kind : goal.async_turn-requires-clause-kind
async_turn-requires-clause-kind c = kind_async c.args.plan.now.unit.now (code_kind c.args.plan.now.unit.now (object_at c.args.parts.now.heap c.args.slot)) c.in-Async.to c.in-Async.method c.in-Async.args (ap (λ (n : Need). H.At n) (sym c.in-Async.is) ∙ c.requires.hand)

pub write_turn-requires-clause-kind : goal.write_turn-requires-clause-kind
write_turn-requires-clause-kind c = kind_write c.args.plan.now.unit.now (code_kind c.args.plan.now.unit.now (object_at c.args.parts.now.heap c.args.slot)) c.in-Write.item (ap (λ (n : Need). H.At n) (sym c.in-Write.is) ∙ c.requires.hand)

pub return_turn-requires-clause-kind : goal.return_turn-requires-clause-kind
return_turn-requires-clause-kind c = kind_return c.args.plan.now.unit.now (code_kind c.args.plan.now.unit.now (object_at c.args.parts.now.heap c.args.slot)) c.in-Return.caller c.in-Return.number c.in-Return.value (ap (λ (n : Need). H.At n) (sym c.in-Return.is) ∙ c.requires.hand)

pub fault_turn-requires-clause-kind : goal.fault_turn-requires-clause-kind
fault_turn-requires-clause-kind c = kind_fault c.args.plan.now.unit.now (code_kind c.args.plan.now.unit.now (object_at c.args.parts.now.heap c.args.slot)) c.in-Fault.error (ap (λ (n : Need). H.At n) (sym c.in-Fault.is) ∙ c.requires.hand)

pub returns-in-Halted : goal.returns-in-Halted
returns-in-Halted c = λ q. absurd (halted_rests c.args.plan.now.unit.now (code_kind c.args.plan.now.unit.now (object_at c.args.parts.now.heap c.args.slot)) (arrivals (arrivals_of (box_of c.args.parts.now.mailbox c.args.slot))) (ap (λ (n : Need). H.At n) (sym c.in-Halted.is) ∙ c.requires.hand) c.requires.steps)
