use Rattle.std.proofs.Common.{◌≡◌, ap, ◌∙◌, sym, arith}
use Rattle.run_types.specs.declared.types.Label.{Label}
use Rattle.run_types.specs.declared.types.What.TheVariants as W
use Rattle.run_types.proofs.Laws.{same_some}
use Rattle.node_heap.specs.Heaps.{object_at}
use Rattle.object_interp.specs.Offers.{offer_at, offers_at, open_names}
use Rattle.slot_queues.specs.declared.Message.{Message}
use Rattle.slot_queues.specs.Mail.{box_of}
use Rattle.node_semantics.specs.Node.{name_at}
use Rattle.node_state.specs.Choices.{place_called}
use Rattle.node_acts.specs.NodeSteps.{taken_label}
use Rattle.node_acts.proofs.AnswerStep.{serve_full, serve_made, some_place}
use Rattle.node_acts.proofs.serving.serve_turn.Goals as goal

pub returns-then-frames-plan : goal.returns-then-frames-plan
returns-then-frames-plan c = λ q.
    let u = c.args.plan.now.unit.now in let called = some_place (place_called (box_of c.args.parts.now.mailbox c.args.slot) (open_names (offer_at (offers_at u (object_at c.args.parts.now.heap c.args.slot)) c.args.alt))) c.requires.called in
    serve_full c.args.plan.now.unit.now c.args.plan.now.placement.now c.args.plan.now.leaving c.args.parts.now c.requires.set c.args.slot c.requires.slot c.args.alt c.requires.choosing c.requires.first called.0 called.1 q (omega arith)

pub returns-in-Some : goal.returns-in-Some
returns-in-Some c = λ q.
    let u = c.args.plan.now.unit.now in let called = some_place (place_called (box_of c.args.parts.now.mailbox c.args.slot) (open_names (offer_at (offers_at u (object_at c.args.parts.now.heap c.args.slot)) c.args.alt))) c.requires.called in
    let s = c.serve.ensures.served called.0 called.1 in let same : c.in-Some.message ≡ s.0 = same_some (sym c.in-Some.is ∙ s.1) in
    serve_made c.args.plan.now.unit.now c.args.plan.now.placement.now c.args.plan.now.leaving c.args.parts.now c.requires.set c.args.slot c.requires.slot c.args.alt c.requires.choosing c.requires.first called.0 called.1 q c.serve.new.self c.step-room.result s.0 s.3.0 s.2 s.3.1 s.3.2
    (c.step-room.ensures
    ∙ ap (λ (k : Label). W.Step k 1)
    (c.label_of.ensures ∙ ap (λ o. taken_label o c.in-Some.message) c.name_of-object.ensures ∙ ap (λ (m : Message). taken_label (name_at c.args.parts.now.id c.args.slot) m) same))

pub returns-in-None : goal.returns-in-None
returns-in-None c = λ q.
    let u = c.args.plan.now.unit.now in let called = some_place (place_called (box_of c.args.parts.now.mailbox c.args.slot) (open_names (offer_at (offers_at u (object_at c.args.parts.now.heap c.args.slot)) c.args.alt))) c.requires.called in
    absurd (let s = (c.serve.ensures.served called.0 called.1).1 in let is = c.in-None.is in cc)
