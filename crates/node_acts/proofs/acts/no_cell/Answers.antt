use Rattle.std.proofs.Common.{◌≡◌, ℕ, ◌+◌, not, ap, ◌∙◌, arith}
use Rattle.std.specs.Prelude.{nat_lt}
use Rattle.node_semantics.specs.Node.{message_count}
use Rattle.node_state.specs.Views.{slots_of}
use Rattle.node_acts.proofs.NodeLimits.{messages_seen}
use Rattle.node_acts.proofs.PostStep.{le_not}
use Rattle.node_acts.proofs.acts.no_cell.Goals as goal

pub overflow_add-result : goal.overflow_add-result
overflow_add-result c = let k = messages_seen c.args.parts.now c.requires.whole in omega (arith, k, c.requires.cells)

pub returns : goal.returns
returns c =
    let k = messages_seen c.args.parts.now c.requires.whole in
    let e : c.count.result + c.args.plan.now.leaving ≡ message_count (slots_of c.args.parts.now) + c.args.plan.now.leaving = omega (arith, k) in
    le_not c.args.plan.now.placement.now.cells (c.count.result + c.args.plan.now.leaving) ∙ ap (λ (n : ℕ). not (nat_lt n c.args.plan.now.placement.now.cells)) e
