use Rattle.std.proofs.Common.{sym, ap, ◌∙◌, ◌-◌, ◌+◌, []}
use Rattle.std.specs.Prelude.{◌||◌}
use Rattle.std.specs.List.{list_any}
use Rattle.run_types.specs.Values.{not_bool}
use Rattle.run_types.specs.Operands.{taken}
use Rattle.node_heap.specs.Heaps.{top_at}
use Rattle.object_interp.proofs.Guards.{any_here, is_no_bool}
use Rattle.object_interp.proofs.hands.has_wrong_guard.Goals as goal

pub returns-in_default : goal.returns-in_default
returns-in_default c =
    let vs = (top_at c.args.heap.now c.args.slot).operands in
    let rest = list_any not_bool (taken (c.args.count - (c.loop-done.done + 1)) vs []) in
    sym (c.loop-done.invariant ∙ any_here not_bool c.args.count c.loop-done.done vs c.operand.result c.loop-done-test.true c.operand.ensures
    ∙ ap (λ b. b || rest) (is_no_bool c.operand.result c.in_default.not-Bool))

pub loop-done-preserved : goal.loop-done-preserved
loop-done-preserved c =
    let vs = (top_at c.args.heap.now c.args.slot).operands in
    let rest = list_any not_bool (taken (c.args.count - (c.loop-done.done + 1)) vs []) in
    c.loop-done.invariant ∙ any_here not_bool c.args.count c.loop-done.done vs c.operand.result c.loop-done-test.true c.operand.ensures
    ∙ ap (λ v. not_bool v || rest) c.in-Bool.is
