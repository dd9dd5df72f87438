use Rattle.std.proofs.Common.{sym, ap, ◌∙◌}
use Rattle.run_types.specs.declared.types.Label.TheVariants as L
use Rattle.run_types.specs.declared.types.What.TheVariants as W
use Rattle.node_heap.specs.Heaps.{object_at}
use Rattle.object_interp.specs.Offers.{offer_at, offers_at, open_names}
use Rattle.slot_queues.specs.Mail.{box_of}
use Rattle.node_state.specs.Choices.{place_called}
use Rattle.node_state.proofs.Laws.{slot_real}
use Rattle.node_acts.proofs.AnswerStep.{pick_made, some_way, is_called_since}
use Rattle.node_acts.proofs.serving.choose.Goals as goal

pub plain_alt-requires-clause-fits : goal.plain_alt-requires-clause-fits
plain_alt-requires-clause-fits c = (slot_real c.args.plan.now.unit.now c.args.parts.now c.requires.set.unit c.args.slot c.requires.slot).fits

pub serve_turn-requires-clause-called : goal.serve_turn-requires-clause-called
serve_turn-requires-clause-called c =
    is_called_since (place_called (box_of c.args.parts.now.mailbox c.args.slot) (open_names (offer_at (offers_at c.args.plan.now.unit.now (object_at c.args.parts.now.heap c.args.slot)) c.args.alt)))
    (some_way c.args.plan.now.unit.now c.args.plan.now.placement.now c.args.plan.now.leaving c.args.parts.now c.requires.set c.args.slot c.requires.slot c.args.alt c.requires.choosing c.requires.first (sym c.plain_alt.ensures ∙ c.if-plain_alt.false))

pub returns-then-plain_alt : goal.returns-then-plain_alt
returns-then-plain_alt c = λ q.
    pick_made c.args.plan.now.unit.now c.args.plan.now.placement.now c.args.plan.now.leaving c.args.parts.now c.requires.set c.args.slot c.requires.slot c.args.alt c.requires.choosing c.requires.first q c.pick.new.self c.step-room.result (sym c.plain_alt.ensures ∙ c.if-plain_alt.true) c.pick.ensures
    (c.step-room.ensures ∙ ap (λ o. W.Step (L.Pick o c.args.alt) 1) c.name_of-object.ensures)
