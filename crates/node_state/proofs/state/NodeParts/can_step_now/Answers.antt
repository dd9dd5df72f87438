use Rattle.std.proofs.Common.{sym, ap, ◌∙◌, is_some, Option, ℕ}
use Rattle.code_semantics.specs.Kinds.{code_kind}
use Rattle.slot_queues.specs.Mail.{box_of}
use Rattle.node_heap.specs.Heaps.{object_at}
use Rattle.node_semantics.specs.Node.{arrivals}
use Rattle.node_state.specs.Views.{arrivals_of}
use Rattle.node_state.proofs.ObjectOffers.{alone_can, else_can}
use Rattle.node_state.proofs.state.NodeParts.can_step_now.Goals as goal

pub returns-then-can_step_alone : goal.returns-then-can_step_alone
returns-then-can_step_alone c =
    let x = object_at c.args.self.now.heap c.args.slot in
    sym (alone_can (arrivals (arrivals_of (box_of c.args.self.now.mailbox c.args.slot))) (code_kind c.args.unit.now x) (sym c.can_step_alone.ensures ∙ c.if-can_step_alone.true))

pub returns : goal.returns
returns c =
    let x = object_at c.args.self.now.heap c.args.slot in
    c.is_some.ensures ∙ (ap (λ (o : Option ℕ). is_some o) c.first_possible.ensures
    ∙ else_can c.args.unit.now x (box_of c.args.self.now.mailbox c.args.slot) (sym c.can_step_alone.ensures ∙ c.if-can_step_alone.false))
