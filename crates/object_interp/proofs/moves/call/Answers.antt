use Rattle.std.proofs.Common.{◌≡◌, ◌∙◌, sym, ap, ◌<◌, length, arith}
use Rattle.std.proofs.lemmas.Option.{slice_get_within}
use Rattle.run_types.specs.declared.types.Serves.TheVariants as S
use Rattle.run_types.specs.Operands.{dropped}
use Rattle.code_semantics.specs.Frames.{next}
use Rattle.code_semantics.specs.Step.{begun}
use Rattle.node_heap.specs.Heaps.{object_at, put_object, frames_used, top_in, top_at, under_top}
use Rattle.object_interp.specs.Moves.{entered}
use Rattle.object_interp.specs.Tops.{over}
use Rattle.object_interp.proofs.TopFrames.{with_top}
use Rattle.object_interp.proofs.InnermostFrame.{has_top}
use Rattle.object_interp.proofs.InstructionFacts.{callee, has_method, frames_put}
use Rattle.object_interp.proofs.Slots.{put_then, object_then}
use Rattle.object_interp.proofs.moves.call.Goals as goal

pub method_place-place-requires-clause-has : goal.method_place-place-requires-clause-has
method_place-place-requires-clause-has c =
    let x = object_at c.args.heap.now c.args.slot in
    has_method c.args.unit.now c.requires.proper x (has_top c.args.unit.now x c.requires.fits) c.args.name c.requires.at c.class_at-class.result.now c.class_at-class.ensures

pub bounds-items-place : goal.bounds-items-place
bounds-items-place c =
    let r = c.method_place-place.ensures in
    let k = c.class_at-class.result.now in
    let within : c.method_place-place.result < length k.methods = slice_get_within k.methods c.method_place-place.result r.0 r.1 in
    omega (arith, within, ap length c.items.ensures)

pub last_values-args-requires-clause-few : goal.last_values-args-requires-clause-few
last_values-args-requires-clause-few c =
    let x = object_at c.args.heap.now c.args.slot in
    (callee c.args.unit.now c.requires.proper x (has_top c.args.unit.now x c.requires.fits) c.args.name c.requires.at c.class_at-class.result.now c.class_at-class.ensures
    c.method_place-place.result c.method_place-place.ensures c.items.result.now c.index-items-place.result c.items.ensures c.index-items-place.is).few

pub last_values-args-requires-clause-enough : goal.last_values-args-requires-clause-enough
last_values-args-requires-clause-enough c =
    let x = object_at c.args.heap.now c.args.slot in
    (callee c.args.unit.now c.requires.proper x (has_top c.args.unit.now x c.requires.fits) c.args.name c.requires.at c.class_at-class.result.now c.class_at-class.ensures
    c.method_place-place.result c.method_place-place.ensures c.items.result.now c.index-items-place.result c.items.ensures c.index-items-place.is).enough

pub drop_operands-requires-clause-enough : goal.drop_operands-requires-clause-enough
drop_operands-requires-clause-enough c =
    let x = object_at c.args.heap.now c.args.slot in
    (callee c.args.unit.now c.requires.proper x (has_top c.args.unit.now x c.requires.fits) c.args.name c.requires.at c.class_at-class.result.now c.class_at-class.ensures
    c.method_place-place.result c.method_place-place.ensures c.items.result.now c.index-items-place.result c.items.ensures c.index-items-place.is).enough

pub advance-requires-clause-place : goal.advance-requires-clause-place
advance-requires-clause-place c =
    let h = c.args.heap.now in
    let s = c.args.slot in
    let x = object_at h s in
    let f = top_at h s in
    let k = callee c.args.unit.now c.requires.proper x (has_top c.args.unit.now x c.requires.fits) c.args.name c.requires.at c.class_at-class.result.now c.class_at-class.ensures
    c.method_place-place.result c.method_place-place.ensures c.items.result.now c.index-items-place.result c.items.ensures c.index-items-place.is in
    let e = ap (λ y. (top_in y.frames).at)
    (object_then h c.drop_operands.new.self s (with_top x (record f { operands = dropped c.index-items-place.result.params f.operands })) c.requires.slot c.drop_operands.ensures) in
    omega (arith, k.next, e)

pub begin-requires-clause-temps : goal.begin-requires-clause-temps
begin-requires-clause-temps c =
    let x = object_at c.args.heap.now c.args.slot in
    (callee c.args.unit.now c.requires.proper x (has_top c.args.unit.now x c.requires.fits) c.args.name c.requires.at c.class_at-class.result.now c.class_at-class.ensures
    c.method_place-place.result c.method_place-place.ensures c.items.result.now c.index-items-place.result c.items.ensures c.index-items-place.is).temps

pub begin-requires-clause-params : goal.begin-requires-clause-params
begin-requires-clause-params c =
    let x = object_at c.args.heap.now c.args.slot in
    (callee c.args.unit.now c.requires.proper x (has_top c.args.unit.now x c.requires.fits) c.args.name c.requires.at c.class_at-class.result.now c.class_at-class.ensures
    c.method_place-place.result c.method_place-place.ensures c.items.result.now c.index-items-place.result c.items.ensures c.index-items-place.is).params

pub begin-requires-clause-free : goal.begin-requires-clause-free
begin-requires-clause-free c full =
    let h = c.args.heap.now in
    let s = c.args.slot in
    let x = object_at h s in
    let f = top_at h s in
    let f1 = record f { operands = dropped c.index-items-place.result.params f.operands } in
    let y = with_top x (next f1 f1.operands) in
    let e : c.advance.new.self ≡ put_object h s y = put_then h c.drop_operands.new.self c.advance.new.self s (with_top x f1)
    (λ z. with_top z (next (top_in z.frames) (top_in z.frames).operands)) c.requires.slot c.drop_operands.ensures c.advance.ensures in
    let some : length x.frames ≡ length y.frames = ap length (has_top c.args.unit.now x c.requires.fits).some in
    c.requires.free (omega (arith, full, some, frames_put h s y c.requires.slot, ap frames_used e, ap (λ b. b.most_frames) e))

pub returns : goal.returns
returns c =
    let h = c.args.heap.now in
    let s = c.args.slot in
    let x = object_at h s in
    let f = top_at h s in
    let m = c.index-items-place.result in
    let place = c.method_place-place.result in
    let k = callee c.args.unit.now c.requires.proper x (has_top c.args.unit.now x c.requires.fits) c.args.name c.requires.at c.class_at-class.result.now c.class_at-class.ensures
    place c.method_place-place.ensures c.items.result.now m c.items.ensures c.index-items-place.is in
    let f1 = record f { operands = dropped m.params f.operands } in
    let y = with_top x (next f1 f1.operands) in
    let e : c.advance.new.self ≡ put_object h s y = put_then h c.drop_operands.new.self c.advance.new.self s (with_top x f1)
    (λ z. with_top z (next (top_in z.frames) (top_in z.frames).operands)) c.requires.slot c.drop_operands.ensures c.advance.ensures in
    let args = c.last_values-args.result in
    put_then h c.advance.new.self c.begin.new.heap s y
    (λ z. over z (begun (record { place = place; code = m }) args S.Own) z.frames) c.requires.slot e c.begin.ensures
    ∙ ap (λ vs. put_object h s (over y (begun (record { place = place; code = m }) vs S.Own) y.frames)) c.last_values-args.ensures
    ∙ ap (λ o. put_object h s (entered x f (under_top x.frames) o)) (sym k.named)
