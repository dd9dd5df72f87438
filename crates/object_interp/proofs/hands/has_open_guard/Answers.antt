use Rattle.std.proofs.Common.{sym, ap, ◌∙◌, ◌-◌, ◌+◌, []}
use Rattle.std.specs.Prelude.{◌||◌}
use Rattle.std.specs.List.{list_any}
use Rattle.run_types.specs.Values.{is_true}
use Rattle.run_types.specs.Operands.{taken}
use Rattle.node_heap.specs.Heaps.{top_at}
use Rattle.object_interp.proofs.Guards.{any_here}
use Rattle.object_interp.proofs.hands.has_open_guard.Goals as goal

pub returns-then-is_true : goal.returns-then-is_true
returns-then-is_true c =
    let vs = (top_at c.args.heap.now c.args.slot).operands in
    let rest = list_any is_true (taken (c.args.count - (c.loop-done.done + 1)) vs []) in
    sym (c.loop-done.invariant ∙ any_here is_true c.args.count c.loop-done.done vs c.operand-guard.result c.loop-done-test.true c.operand-guard.ensures
    ∙ ap (λ b. b || rest) (sym c.is_true.ensures ∙ c.if-is_true.true))

pub loop-done-preserved : goal.loop-done-preserved
loop-done-preserved c =
    let vs = (top_at c.args.heap.now c.args.slot).operands in
    let rest = list_any is_true (taken (c.args.count - (c.loop-done.done + 1)) vs []) in
    c.loop-done.invariant ∙ any_here is_true c.args.count c.loop-done.done vs c.operand-guard.result c.loop-done-test.true c.operand-guard.ensures
    ∙ ap (λ b. b || rest) (sym c.is_true.ensures ∙ c.if-is_true.false)
