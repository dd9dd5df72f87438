use Rattle.std.proofs.Common.{◌≡◌, ap, ◌∙◌, sym, suc, false}
use Rattle.std.specs.Prelude.{if◌then◌else◌}
use Rattle.run_types.specs.Values.{is_true}
use Rattle.run_types.specs.Operands.{top, below}
use Rattle.code_semantics.specs.Frames.{next}
use Rattle.node_heap.specs.Heaps.{object_at, put_object, top_in, top_at}
use Rattle.object_interp.proofs.TopFrames.{with_top}
use Rattle.object_interp.proofs.Slots.{put_then}
use Rattle.object_interp.proofs.moves.go.Goals as goal

pub returns-then-not-is_true : goal.returns-then-not-is_true
returns-then-not-is_true c =
    let h = c.args.heap.now in
    let s = c.args.slot in
    let f = top_at h s in
    let x = object_at h s in
    let not_held : is_true (top f.operands) ≡ false = ap is_true (sym c.pop_next-condition.ensures.value) ∙ sym c.is_true.ensures ∙ c.if-not-is_true.true in
    put_then h c.pop_next-condition.new.self c.set_at.new.self s (with_top x (next f (below f.operands)))
    (λ y. with_top y (record (top_in y.frames) { at = c.args.to })) c.requires.slot c.pop_next-condition.ensures.rest c.set_at.ensures
    ∙ ap (λ b. put_object h s (with_top x (record f { at = if b then suc f.at else c.args.to; operands = below f.operands }))) (sym not_held)
