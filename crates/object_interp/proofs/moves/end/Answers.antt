use Rattle.std.proofs.Common.{◌∙◌, ap, sym, ◌∷◌}
use Rattle.node_heap.specs.Heaps.{object_at, put_object, top_in, top_at, under_top}
use Rattle.object_interp.proofs.TopFrames.{with_top}
use Rattle.object_interp.proofs.InnermostFrame.{ended_own}
use Rattle.object_interp.proofs.Slots.{put_then}
use Rattle.object_interp.proofs.moves.end.Goals as goal

pub returns-in-Own : goal.returns-in-Own
returns-in-Own c =
    let h = c.args.heap.now in
    let s = c.args.slot in
    let x = object_at h s in
    let v = c.value_at-value.result in
    put_then h c.pop_frame-head.new.self c.push.new.self s (record x { frames = under_top x.frames })
    (λ y. with_top y (record (top_in y.frames) { operands = v ∷ (top_in y.frames).operands })) c.requires.slot c.pop_frame-head.ensures.frames c.push.ensures
    ∙ ap (put_object h s)
    (ended_own x (top_at h s) x.frames v c.requires.frames c.value_at-value.ensures (sym (ap (λ d. d.serves) c.pop_frame-head.ensures.head) ∙ c.in-Own.is))
