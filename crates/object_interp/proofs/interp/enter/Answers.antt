use Rattle.std.specs.Prelude.{IsTrue, is_some}
use Rattle.std.proofs.lemmas.Option.{slice_get_within}
use Rattle.std.proofs.Common.{◌≡◌, ◌<◌, sym, ap, ◌∙◌, subst, refl, ◌∷◌, length, Some, arith}
use Rattle.node_heap.specs.Heaps.{object_at, put_object, frames_used, top_at, under_top}
use Rattle.code_semantics.specs.StepInstructions.{AnyValue, FitsUnit, IsAtStep}
use Rattle.code_semantics.proofs.Laws.{plain_any, each_any, serving_of, serving_rests, same_some}
use Rattle.code_semantics.specs.Step.{after_choice, begun, code_serving, method_named}
use Rattle.object_interp.specs.SettledObject.{settled_at}
use Rattle.object_interp.specs.Tops.{HasTop, over}
use Rattle.object_interp.proofs.TopFrames.{with_top}
use Rattle.object_interp.proofs.InnermostFrame.{has_top, at_hand}
use Rattle.object_interp.proofs.Slots.{put_then, object_then}
use Rattle.object_interp.proofs.RequestSteps.{answered_own, answering_is_offered, chooses, next_is, offers_top, serving_top}
use Rattle.object_interp.specs.Offers.{answers_to, instr_offers, offer_at, open_names}
use Rattle.object_interp.proofs.InstructionFacts.{found, frames_put}
use Rattle.object_interp.proofs.LocalSteps.{begun_frame, top_over}
use Rattle.object_interp.proofs.interp.enter.Goals as goal

pub method_place-place-requires-clause-has : goal.method_place-place-requires-clause-has
method_place-place-requires-clause-has c =
    let u = c.args.unit.now in
    let h = c.args.heap.now in
    let s = c.args.slot in
    let x = object_at h s in
    let t = has_top u x c.requires.fits in
    let i = at_hand u c.requires.proper x t in
    let answers = sym (ap (λ os. answers_to (open_names (offer_at os c.args.alt)) c.args.method) (offers_top u x t i.0 i.1)) ∙ c.requires.answers in
    subst (λ k. IsTrue (is_some (method_named (Some k) c.args.method))) (same_some t.class c.class_at-class.result.now (sym t.is_class ∙ c.class_at-class.ensures))
    (answered_own u c.requires.proper x t i.0 i.1 c.args.alt c.args.method answers)

pub choose-requires-clause-next : goal.choose-requires-clause-next
choose-requires-clause-next c =
    let u = c.args.unit.now in
    let h = c.args.heap.now in
    let s = c.args.slot in
    let x = object_at h s in
    let t = has_top u x c.requires.fits in
    let i = c.instr_at-instr.result.now in
    let answers = sym (ap (λ os. answers_to (open_names (offer_at os c.args.alt)) c.args.method) (offers_top u x t i c.instr_at-instr.ensures)) ∙ c.requires.answers in
    let offered = answering_is_offered (offer_at (instr_offers (top_at h s) (Some i)) c.args.alt) c.args.method answers in
    next_is u c.requires.proper x t i c.instr_at-instr.ensures c.args.alt offered

pub choose-requires-clause-chooses : goal.choose-requires-clause-chooses
choose-requires-clause-chooses c =
    let u = c.args.unit.now in
    let h = c.args.heap.now in
    let s = c.args.slot in
    let x = object_at h s in
    let t = has_top u x c.requires.fits in
    let i = c.instr_at-instr.result.now in
    let answers = sym (ap (λ os. answers_to (open_names (offer_at os c.args.alt)) c.args.method) (offers_top u x t i c.instr_at-instr.ensures)) ∙ c.requires.answers in
    let offered = answering_is_offered (offer_at (instr_offers (top_at h s) (Some i)) c.args.alt) c.args.method answers in
    chooses u c.requires.proper x t i c.instr_at-instr.ensures c.args.alt offered

pub bounds-items-place : goal.bounds-items-place
bounds-items-place c =
    let r = c.method_place-place.ensures in
    let k = c.class_at-class.result.now in
    let within : c.method_place-place.result < length k.methods = slice_get_within k.methods c.method_place-place.result r.0 r.1 in
    omega (arith, within, ap length c.items.ensures)

pub begin-requires-clause-temps : goal.begin-requires-clause-temps
begin-requires-clause-temps c =
    let u = c.args.unit.now in
    let h = c.args.heap.now in
    let s = c.args.slot in
    let x = object_at h s in
    let t = has_top u x c.requires.fits in
    let m = c.index-items-place.result in
    let place = c.method_place-place.result in
    let r = found u c.requires.proper x c.args.method c.class_at-class.result.now c.class_at-class.ensures place c.method_place-place.ensures c.items.result.now m c.items.ensures c.index-items-place.is in
    r.temps

pub begin-requires-clause-params : goal.begin-requires-clause-params
begin-requires-clause-params c =
    let u = c.args.unit.now in
    let h = c.args.heap.now in
    let s = c.args.slot in
    let x = object_at h s in
    let t = has_top u x c.requires.fits in
    let m = c.index-items-place.result in
    let place = c.method_place-place.result in
    let r = found u c.requires.proper x c.args.method c.class_at-class.result.now c.class_at-class.ensures place c.method_place-place.ensures c.items.result.now m c.items.ensures c.index-items-place.is in
    r.params

pub begin-requires-clause-free : goal.begin-requires-clause-free
begin-requires-clause-free c full =
    let u = c.args.unit.now in
    let h = c.args.heap.now in
    let s = c.args.slot in
    let x = object_at h s in
    let t = has_top u x c.requires.fits in
    let y = with_top x (after_choice (top_at h s) c.args.alt (Some c.instr_at-instr.result.now)) in
    let some : length x.frames ≡ length y.frames = ap length t.some in
    c.if-frames-frame_limit.false
    (omega (
      arith,
      full,
      some,
      frames_put h s y c.requires.slot,
      ap frames_used c.choose.ensures,
      ap (λ b. b.most_frames) c.choose.ensures,
      c.frames.ensures.count,
      c.frame_limit.ensures,
    ))

pub settle-requires-clause-top : goal.settle-requires-clause-top
settle-requires-clause-top c =
    let u = c.args.unit.now in
    let h = c.args.heap.now in
    let s = c.args.slot in
    let x = object_at h s in
    let t = has_top u x c.requires.fits in
    let m = c.index-items-place.result in
    let place = c.method_place-place.result in
    let r = found u c.requires.proper x c.args.method c.class_at-class.result.now c.class_at-class.ensures place c.method_place-place.ensures c.items.result.now m c.items.ensures c.index-items-place.is in
    let i = c.instr_at-instr.result.now in
    let g = after_choice (top_at h s) c.args.alt (Some i) in
    let begins = begun (record { place = place; code = m }) c.args.args.now c.args.serves in
    let entered = over (with_top x g) begins (g ∷ under_top x.frames) in
    let b : c.begin.new.heap ≡ put_object h s entered =
    put_then h c.choose.new.heap c.begin.new.heap s (with_top x g) (λ z. over z begins z.frames) c.requires.slot c.choose.ensures c.begin.ensures in
    subst (HasTop u) (sym (object_then h c.begin.new.heap s entered c.requires.slot b))
    (top_over u c.requires.proper x c.requires.fits (with_top x g) begins (g ∷ under_top x.frames) refl
    (begun_frame t.class c.args.method (record { place = place; code = m }) c.args.args.now c.args.serves (ap (λ k. method_named k c.args.method) (sym t.is_class) ∙ r.named)))

pub returns-clause-ok : goal.returns-clause-ok
returns-clause-ok c =
    let u = c.args.unit.now in
    let h = c.args.heap.now in
    let s = c.args.slot in
    let x = object_at h s in
    let t = has_top u x c.requires.fits in
    let m = c.index-items-place.result in
    let place = c.method_place-place.result in
    let r = found u c.requires.proper x c.args.method c.class_at-class.result.now c.class_at-class.ensures place c.method_place-place.ensures c.items.result.now m c.items.ensures c.index-items-place.is in
    let i = c.instr_at-instr.result.now in
    let g = after_choice (top_at h s) c.args.alt (Some i) in
    let begins = begun (record { place = place; code = m }) c.args.args.now c.args.serves in
    let entered = over (with_top x g) begins (g ∷ under_top x.frames) in
    let b : c.begin.new.heap ≡ put_object h s entered =
    put_then h c.choose.new.heap c.begin.new.heap s (with_top x g) (λ z. over z begins z.frames) c.requires.slot c.choose.ensures c.begin.ensures in
    let y = settled_at u entered in
    let e : c.settle.new.heap ≡ put_object h s y = put_then h c.begin.new.heap c.settle.new.heap s entered (settled_at u) c.requires.slot b c.settle.ensures in
    let serves : code_serving u x c.args.alt c.args.method c.args.args.now c.args.serves ≡ Some y =
    serving_top u x t i c.instr_at-instr.ensures c.args.alt c.args.method c.args.args.now c.args.serves (record { place = place; code = m }) r.named in
    (y, serves, e)

pub returns-clause-fits : goal.returns-clause-fits
returns-clause-fits c =
    let u = c.args.unit.now in
    let h = c.args.heap.now in
    let s = c.args.slot in
    let x = object_at h s in
    let t = has_top u x c.requires.fits in
    let m = c.index-items-place.result in
    let place = c.method_place-place.result in
    let r = found u c.requires.proper x c.args.method c.class_at-class.result.now c.class_at-class.ensures place c.method_place-place.ensures c.items.result.now m c.items.ensures c.index-items-place.is in
    let i = c.instr_at-instr.result.now in
    let g = after_choice (top_at h s) c.args.alt (Some i) in
    let begins = begun (record { place = place; code = m }) c.args.args.now c.args.serves in
    let entered = over (with_top x g) begins (g ∷ under_top x.frames) in
    let b : c.begin.new.heap ≡ put_object h s entered =
    put_then h c.choose.new.heap c.begin.new.heap s (with_top x g) (λ z. over z begins z.frames) c.requires.slot c.choose.ensures c.begin.ensures in
    let y = settled_at u entered in
    let e : c.settle.new.heap ≡ put_object h s y = put_then h c.begin.new.heap c.settle.new.heap s entered (settled_at u) c.requires.slot b c.settle.ensures in
    let serves : code_serving u x c.args.alt c.args.method c.args.args.now c.args.serves ≡ Some y =
    serving_top u x t i c.instr_at-instr.ensures c.args.alt c.args.method c.args.args.now c.args.serves (record { place = place; code = m }) r.named in
    subst (FitsUnit u) (sym (object_then h c.settle.new.heap s y c.requires.slot e))
    (serving_of u c.requires.proper AnyValue plain_any x c.requires.fits c.args.alt c.args.method c.args.args.now c.args.serves y c.requires.choosing
    (each_any c.args.args.now) c.requires.serves serves)

pub returns-clause-rests : goal.returns-clause-rests
returns-clause-rests c =
    let u = c.args.unit.now in
    let h = c.args.heap.now in
    let s = c.args.slot in
    let x = object_at h s in
    let t = has_top u x c.requires.fits in
    let m = c.index-items-place.result in
    let place = c.method_place-place.result in
    let r = found u c.requires.proper x c.args.method c.class_at-class.result.now c.class_at-class.ensures place c.method_place-place.ensures c.items.result.now m c.items.ensures c.index-items-place.is in
    let i = c.instr_at-instr.result.now in
    let g = after_choice (top_at h s) c.args.alt (Some i) in
    let begins = begun (record { place = place; code = m }) c.args.args.now c.args.serves in
    let entered = over (with_top x g) begins (g ∷ under_top x.frames) in
    let b : c.begin.new.heap ≡ put_object h s entered =
    put_then h c.choose.new.heap c.begin.new.heap s (with_top x g) (λ z. over z begins z.frames) c.requires.slot c.choose.ensures c.begin.ensures in
    let y = settled_at u entered in
    let e : c.settle.new.heap ≡ put_object h s y = put_then h c.begin.new.heap c.settle.new.heap s entered (settled_at u) c.requires.slot b c.settle.ensures in
    let serves : code_serving u x c.args.alt c.args.method c.args.args.now c.args.serves ≡ Some y =
    serving_top u x t i c.instr_at-instr.ensures c.args.alt c.args.method c.args.args.now c.args.serves (record { place = place; code = m }) r.named in
    subst (IsAtStep u) (sym (object_then h c.settle.new.heap s y c.requires.slot e))
    (serving_rests u c.requires.proper AnyValue plain_any x c.requires.fits c.args.alt c.args.method c.args.args.now c.args.serves y c.requires.choosing
    (each_any c.args.args.now) c.requires.serves serves c.requires.rests)
