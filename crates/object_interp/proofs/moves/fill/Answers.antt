use Rattle.std.proofs.Common.{◌≡◌, ◌∙◌, ap, sym, suc, ◌+◌, ◌<◌, length, take, Some, get_or, arith, min}
use Rattle.std.specs.Prelude.{slice_get, slice_set, pos}
use Rattle.std.proofs.lemmas.Option.{slice_get-get_or}
use Rattle.run_types.specs.declared.types.Value.TheVariants as V
use Rattle.run_types.specs.Operands.{padded}
use Rattle.node_heap.specs.Heaps.{object_at, put_object, top_in, top_at}
use Rattle.object_interp.proofs.TopFrames.{with_top}
use Rattle.object_interp.proofs.Operands.{padded_set, take_most}
use Rattle.code_semantics.proofs.Laws.{length_padded}
use Rattle.object_interp.proofs.SilentSteps.{same_top}
use Rattle.object_interp.proofs.InnermostFrame.{some_frames}
use Rattle.object_interp.proofs.Slots.{put_then, put_same, object_then, still_there}
use Rattle.object_interp.proofs.moves.fill.Goals as goal

pub loop-place-init : goal.loop-place-init
loop-place-init c =
    let h = c.args.heap.now in
    let s = c.args.slot in
    let x = object_at h s in
    let f = top_at h s in
    sym (ap (λ temps. put_object h s (with_top x (record f { temps = temps }))) (sym c.requires.fresh)
    ∙ ap (put_object h s) (same_top x (some_frames x c.requires.frame)) ∙ put_same h s)

pub store_temp-requires-clause-slot : goal.store_temp-requires-clause-slot
store_temp-requires-clause-slot c =
    let h = c.args.heap.now in
    let s = c.args.slot in
    let f = top_at h s in
    still_there h c.loop-place.heap s (with_top (object_at h s) (record f { temps = padded (length f.temps) (take c.loop-place.place c.args.args.now) })) c.requires.slot c.loop-place.invariant

pub store_temp-requires-clause-place : goal.store_temp-requires-clause-place
store_temp-requires-clause-place c =
    let h = c.args.heap.now in
    let s = c.args.slot in
    let f = top_at h s in
    let temps = padded (length f.temps) (take c.loop-place.place c.args.args.now) in
    let e = ap (λ y. length (top_in y.frames).temps) (object_then h c.loop-place.heap s (with_top (object_at h s) (record f { temps = temps })) c.requires.slot c.loop-place.invariant) in
    omega (arith, e, length_padded (length f.temps) (take c.loop-place.place c.args.args.now))

pub loop-place-preserved : goal.loop-place-preserved
loop-place-preserved c =
    let h = c.args.heap.now in
    let s = c.args.slot in
    let f = top_at h s in
    let x = object_at h s in
    let n = length f.temps in
    let args = c.args.args.now in
    let j = c.loop-place.place in
    let zero_value = V.Int (pos 0) in
    let v = get_or c.values-values.result.now j zero_value in
    let count : c.min-count.result ≡ min c.args.params (length args) = c.min-count.ensures ∙ ap (min c.args.params) c.len.ensures.count in
    let few : j < n = omega (arith, count) in
    let there : j < length c.values-values.result.now = omega (arith, count, ap length c.values-values.ensures) in
    let here : slice_get args j ≡ Some v = ap (λ vs. slice_get vs j) (sym c.values-values.ensures) ∙ slice_get-get_or c.values-values.result.now j zero_value there in
    let next_one : suc j ≡ j + 1 = omega arith in
    put_then h c.loop-place.heap c.store_temp.new.self s (with_top x (record f { temps = padded n (take j args) }))
    (λ y. with_top y (record (top_in y.frames) { temps = slice_set (top_in y.frames).temps j v })) c.requires.slot c.loop-place.invariant c.store_temp.ensures
    ∙ ap (λ vs. put_object h s (with_top x (record f { temps = vs }))) (padded_set n j args v few here ∙ ap (λ m. padded n (take m args)) next_one)

pub returns : goal.returns
returns c =
    let h = c.args.heap.now in
    let s = c.args.slot in
    let f = top_at h s in
    let args = c.args.args.now in
    let all : c.loop-place.place ≡ c.min-count.result = omega arith in
    c.loop-place.invariant
    ∙ ap (λ vs. put_object h s (with_top (object_at h s) (record f { temps = padded (length f.temps) vs })))
    (take_most c.args.params c.loop-place.place args (all ∙ c.min-count.ensures ∙ ap (min c.args.params) c.len.ensures.count))
