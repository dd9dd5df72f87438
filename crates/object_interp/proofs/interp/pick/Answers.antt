use Rattle.std.proofs.Common.{◌≡◌, sym, ap, ◌∙◌, subst, Some}
use Rattle.node_heap.specs.Heaps.{object_at, put_object, top_at}
use Rattle.code_semantics.specs.StepInstructions.{AnyValue, FitsUnit, IsAtStep}
use Rattle.code_semantics.proofs.Laws.{plain_any, picked_of, picked_rests}
use Rattle.code_semantics.specs.Step.{after_choice, code_picked}
use Rattle.object_interp.specs.SettledObject.{settled_at}
use Rattle.object_interp.specs.Tops.{HasTop}
use Rattle.object_interp.proofs.TopFrames.{with_top}
use Rattle.object_interp.proofs.InnermostFrame.{has_top}
use Rattle.object_interp.proofs.Slots.{put_then, object_then}
use Rattle.object_interp.proofs.RequestSteps.{chooses, chosen_has_top, next_is, offers_top, picked_top, plain_is_offered, selecting_chooses}
use Rattle.code_semantics.specs.Kinds.{code_kind}
use Rattle.object_interp.specs.Offers.{instr_offers, is_open_plain, offer_at}
use Rattle.object_interp.proofs.interp.pick.Goals as goal

pub choose-requires-clause-next : goal.choose-requires-clause-next
choose-requires-clause-next c =
    let u = c.args.unit.now in
    let h = c.args.heap.now in
    let s = c.args.slot in
    let x = object_at h s in
    let i = c.instr_at-instr.result.now in
    let t = has_top u x c.requires.fits in
    let offered = plain_is_offered (offer_at (instr_offers (top_at h s) (Some i)) c.args.alt)
    (sym (ap (λ os. is_open_plain (offer_at os c.args.alt)) (offers_top u x t i c.instr_at-instr.ensures)) ∙ c.requires.plain) in
    next_is u c.requires.proper x t i c.instr_at-instr.ensures c.args.alt offered

pub choose-requires-clause-chooses : goal.choose-requires-clause-chooses
choose-requires-clause-chooses c =
    let u = c.args.unit.now in
    let h = c.args.heap.now in
    let s = c.args.slot in
    let x = object_at h s in
    let i = c.instr_at-instr.result.now in
    let t = has_top u x c.requires.fits in
    let offered = plain_is_offered (offer_at (instr_offers (top_at h s) (Some i)) c.args.alt)
    (sym (ap (λ os. is_open_plain (offer_at os c.args.alt)) (offers_top u x t i c.instr_at-instr.ensures)) ∙ c.requires.plain) in
    chooses u c.requires.proper x t i c.instr_at-instr.ensures c.args.alt offered

pub settle-requires-clause-top : goal.settle-requires-clause-top
settle-requires-clause-top c =
    let u = c.args.unit.now in
    let h = c.args.heap.now in
    let s = c.args.slot in
    let x = object_at h s in
    let i = c.instr_at-instr.result.now in
    let t = has_top u x c.requires.fits in
    let offered = plain_is_offered (offer_at (instr_offers (top_at h s) (Some i)) c.args.alt)
    (sym (ap (λ os. is_open_plain (offer_at os c.args.alt)) (offers_top u x t i c.instr_at-instr.ensures)) ∙ c.requires.plain) in
    subst (HasTop u) (sym (object_then h c.choose.new.heap s (with_top x (after_choice (top_at h s) c.args.alt (Some i))) c.requires.slot c.choose.ensures))
    (chosen_has_top u c.requires.proper x c.requires.fits i c.instr_at-instr.ensures c.args.alt offered)

pub returns-clause-picked : goal.returns-clause-picked
returns-clause-picked c =
    let u = c.args.unit.now in
    let h = c.args.heap.now in
    let s = c.args.slot in
    let x = object_at h s in
    let i = c.instr_at-instr.result.now in
    let t = has_top u x c.requires.fits in
    let e : c.settle.new.heap ≡ put_object h s (code_picked u x c.args.alt) =
    put_then h c.choose.new.heap c.settle.new.heap s (with_top x (after_choice (top_at h s) c.args.alt (Some i))) (settled_at u) c.requires.slot c.choose.ensures c.settle.ensures
    ∙ ap (put_object h s) (sym (picked_top u x t i c.instr_at-instr.ensures c.args.alt)) in
    let choosing = selecting_chooses (code_kind u x) c.requires.selecting in
    e

pub returns-clause-fits : goal.returns-clause-fits
returns-clause-fits c =
    let u = c.args.unit.now in
    let h = c.args.heap.now in
    let s = c.args.slot in
    let x = object_at h s in
    let i = c.instr_at-instr.result.now in
    let t = has_top u x c.requires.fits in
    let e : c.settle.new.heap ≡ put_object h s (code_picked u x c.args.alt) =
    put_then h c.choose.new.heap c.settle.new.heap s (with_top x (after_choice (top_at h s) c.args.alt (Some i))) (settled_at u) c.requires.slot c.choose.ensures c.settle.ensures
    ∙ ap (put_object h s) (sym (picked_top u x t i c.instr_at-instr.ensures c.args.alt)) in
    let choosing = selecting_chooses (code_kind u x) c.requires.selecting in
    subst (FitsUnit u) (sym (object_then h c.settle.new.heap s (code_picked u x c.args.alt) c.requires.slot e))
    (picked_of u c.requires.proper AnyValue plain_any x c.requires.fits c.args.alt choosing)

pub returns-clause-rests : goal.returns-clause-rests
returns-clause-rests c =
    let u = c.args.unit.now in
    let h = c.args.heap.now in
    let s = c.args.slot in
    let x = object_at h s in
    let i = c.instr_at-instr.result.now in
    let t = has_top u x c.requires.fits in
    let e : c.settle.new.heap ≡ put_object h s (code_picked u x c.args.alt) =
    put_then h c.choose.new.heap c.settle.new.heap s (with_top x (after_choice (top_at h s) c.args.alt (Some i))) (settled_at u) c.requires.slot c.choose.ensures c.settle.ensures
    ∙ ap (put_object h s) (sym (picked_top u x t i c.instr_at-instr.ensures c.args.alt)) in
    let choosing = selecting_chooses (code_kind u x) c.requires.selecting in
    subst (IsAtStep u) (sym (object_then h c.settle.new.heap s (code_picked u x c.args.alt) c.requires.slot e))
    (picked_rests u c.requires.proper AnyValue plain_any x c.requires.fits c.args.alt choosing c.requires.rests)
