use Rattle.std.proofs.Common.{◌≡◌, ◌∙◌, ap, sym, ◌∷◌, [], length, take, arith}
use Rattle.std.proofs.Common as R
use Rattle.run_types.specs.Operands.{padded}
use Rattle.node_heap.specs.Heaps.{object_at, put_object, frame_by, nils, top_in}
use Rattle.object_interp.specs.Tops.{over}
use Rattle.object_interp.proofs.TopFrames.{with_top}
use Rattle.code_semantics.proofs.Laws.{length_padded}
use Rattle.object_interp.proofs.Slots.{put_then, object_then}
use Rattle.object_interp.proofs.moves.begin.Goals as goal

pub fill-requires-clause-params : goal.fill-requires-clause-params
fill-requires-clause-params c =
    let h = c.args.heap.now in
    let s = c.args.slot in
    let x = object_at h s in
    let f = frame_by (record { method = R.Some c.args.place; temps = c.args.method.now.temps; serves = c.args.serves }) in
    let e = ap (λ y. length (top_in y.frames).temps) (object_then h c.push_frame.new.self s (over x f x.frames) c.requires.slot c.in-Ok.ensures.ok) in
    omega (arith, e, length_padded c.args.method.now.temps [])

pub fill-requires-clause-fresh : goal.fill-requires-clause-fresh
fill-requires-clause-fresh c =
    let h = c.args.heap.now in
    let s = c.args.slot in
    let x = object_at h s in
    let f = frame_by (record { method = R.Some c.args.place; temps = c.args.method.now.temps; serves = c.args.serves }) in
    let e = ap (λ y. (top_in y.frames).temps) (object_then h c.push_frame.new.self s (over x f x.frames) c.requires.slot c.in-Ok.ensures.ok) in
    e ∙ ap nils (sym (ap length e ∙ length_padded c.args.method.now.temps []))

pub returns : goal.returns
returns c =
    let h = c.args.heap.now in
    let s = c.args.slot in
    let x = object_at h s in
    let f = frame_by (record { method = R.Some c.args.place; temps = c.args.method.now.temps; serves = c.args.serves }) in
    let args = take c.args.method.now.params c.args.args.now in
    put_then h c.push_frame.new.self c.fill.new.heap s (over x f x.frames)
    (λ y. with_top y (record (top_in y.frames) { temps = padded (length (top_in y.frames).temps) args })) c.requires.slot c.in-Ok.ensures.ok c.fill.ensures
    ∙ ap (λ n. put_object h s (over x (record f { temps = padded n args }) x.frames)) (length_padded c.args.method.now.temps [])
