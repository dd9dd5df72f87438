use Rattle.std.proofs.Common.{ap, ◌∙◌}
use Rattle.code_semantics.specs.Frames.{next}
use Rattle.node_heap.specs.Heaps.{top_at}
use Rattle.object_interp.proofs.SilentSteps.{passed_else}
use Rattle.object_interp.proofs.moves.pass_value.Goals as goal

pub advance-requires : goal.advance-requires
advance-requires c =
    let f = top_at c.args.heap.now c.args.slot in
    let same = ap (λ h. h.serves) c.head.ensures in
    let passes = passed_else f f.serves (λ k n e. c.in_default.not-Caller k n (same ∙ e)) in
    record { slot = c.requires.slot; place = c.requires.next (next f f.operands) passes }
