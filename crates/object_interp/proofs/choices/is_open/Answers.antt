use Rattle.std.proofs.Common.{sym, ap, ◌∙◌}
use Rattle.run_types.specs.Values.{is_true}
use Rattle.node_heap.specs.Heaps.{top_at}
use Rattle.object_interp.proofs.Operands.{nth_taken}
use Rattle.object_interp.proofs.choices.is_open.Goals as goal

pub returns : goal.returns
returns c =
    c.is_true.ensures
    ∙ ap is_true (c.operand-guard.ensures ∙ sym (nth_taken c.args.count c.args.place (top_at c.args.heap.now c.args.slot).operands c.requires.place))
