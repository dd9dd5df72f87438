use Rattle.std.proofs.Common.{◌||◌, sym, ap, ◌∙◌}
use Rattle.slot_queues.specs.Mail.{box_of}
use Rattle.node_heap.specs.Heaps.{object_at}
use Rattle.object_interp.specs.Offers.{offer_at, offers_at, open_names}
use Rattle.node_state.specs.Choices.{is_called}
use Rattle.node_state.proofs.LongAnswers.{same_called}
use Rattle.node_state.proofs.state.NodeParts.is_possible.Goals as goal

pub returns-in-Some : goal.returns-in-Some
returns-in-Some c =
    let box = box_of c.args.self.now.mailbox c.args.slot in let names = open_names (offer_at (offers_at c.args.unit.now (object_at c.args.self.now.heap c.args.slot)) c.args.alt) in
    c.has_first.ensures ∙ sym (same_called c.in-Some.names.now names c.in-Some.ensures.same box) ∙ ap (λ b. b || is_called box names) (sym (sym c.plain_alt.ensures ∙ c.if-plain_alt.false))
