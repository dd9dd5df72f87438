use Rattle.std.proofs.Common.{◌≡◌, ◌+◌, sym, ap, ◌∙◌, suc, arith}
use Rattle.run_types.specs.declared.types.Serves.TheVariants as S
use Rattle.run_types.specs.Operands.{dropped}
use Rattle.code_semantics.specs.Frames.{next}
use Rattle.node_heap.specs.Heaps.{object_at, put_object, top_in, top_at, under_top}
use Rattle.object_interp.specs.Moves.{gone}
use Rattle.object_interp.proofs.TopFrames.{with_top}
use Rattle.object_interp.proofs.Slots.{put_then}
use Rattle.object_interp.proofs.moves.pass.Goals as goal

pub returns-in-Async : goal.returns-in-Async
returns-in-Async c =
    let h = c.args.heap.now in
    let s = c.args.slot in
    let x = object_at h s in
    let f = top_at h s in
    let n = c.in-Async.count in
    let more : n + 1 ≡ suc n = omega arith in
    put_then h c.drop_operands.new.self c.advance-in-Async.new.self s (with_top x (record f { operands = dropped (n + 1) f.operands }))
    (λ y. with_top y (next (top_in y.frames) (top_in y.frames).operands)) c.requires.slot c.drop_operands.ensures c.advance-in-Async.ensures
    ∙ ap (λ m. put_object h s (with_top x (next f (dropped m f.operands)))) more
    ∙ ap (λ i. put_object h s (gone x f (under_top x.frames) i)) (sym c.in-Async.is)

pub returns-in-Post : goal.returns-in-Post
returns-in-Post c =
    let h = c.args.heap.now in
    let s = c.args.slot in
    let x = object_at h s in
    let f = top_at h s in
    put_then h c.set_serves.new.self c.advance-in-Post.new.self s (with_top x (record f { serves = S.Sender }))
    (λ y. with_top y (next (top_in y.frames) (top_in y.frames).operands)) c.requires.slot c.set_serves.ensures c.advance-in-Post.ensures
    ∙ ap (λ i. put_object h s (gone x f (under_top x.frames) i)) (sym c.in-Post.is)
