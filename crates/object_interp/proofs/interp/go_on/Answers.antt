use Rattle.std.proofs.Common.{◌≡◌, sym, ap, ◌∙◌, subst}
use Rattle.node_heap.specs.Heaps.{object_at, put_object, top_at, under_top}
use Rattle.code_semantics.specs.StepInstructions.{AnyValue, FitsUnit, IsAtStep}
use Rattle.code_semantics.proofs.Laws.{plain_any, gone_on_of, gone_on_rests}
use Rattle.code_semantics.specs.Step.{code_gone_on}
use Rattle.object_interp.specs.SettledObject.{settled_at}
use Rattle.object_interp.specs.Tops.{HasTop}
use Rattle.object_interp.proofs.InnermostFrame.{has_top}
use Rattle.object_interp.proofs.Slots.{put_then, object_then}
use Rattle.object_interp.proofs.RequestSteps.{gone_has_top, gone_top, passes, settled_gone}
use Rattle.object_interp.specs.Moves.{gone}
use Rattle.object_interp.proofs.LocalSteps.{settled_same}
use Rattle.object_interp.proofs.interp.go_on.Goals as goal

pub pass-requires-clause-passes : goal.pass-requires-clause-passes
pass-requires-clause-passes c =
    let u = c.args.unit.now in
    let h = c.args.heap.now in
    let s = c.args.slot in
    let x = object_at h s in
    let i = c.instr_at-instr.result.now in
    passes u c.requires.proper x c.requires.fits i c.instr_at-instr.ensures

pub settle-requires-clause-top : goal.settle-requires-clause-top
settle-requires-clause-top c =
    let u = c.args.unit.now in
    let h = c.args.heap.now in
    let s = c.args.slot in
    let x = object_at h s in
    let i = c.instr_at-instr.result.now in
    subst (HasTop u) (sym (object_then h c.pass.new.heap s (gone x (top_at h s) (under_top x.frames) i) c.requires.slot c.pass.ensures))
    (gone_has_top u c.requires.proper x c.requires.fits i c.instr_at-instr.ensures c.requires.going_on)

pub returns-clause-gone_on : goal.returns-clause-gone_on
returns-clause-gone_on c =
    let u = c.args.unit.now in
    let h = c.args.heap.now in
    let s = c.args.slot in
    let x = object_at h s in
    let i = c.instr_at-instr.result.now in
    let t = has_top u x c.requires.fits in
    let e : c.settle.new.heap ≡ put_object h s (code_gone_on u x) =
    put_then h c.pass.new.heap c.settle.new.heap s (gone x (top_at h s) (under_top x.frames) i) (settled_at u) c.requires.slot c.pass.ensures c.settle.ensures
    ∙ ap (put_object h s)
    (settled_gone u x (top_at h s) (under_top x.frames) i (settled_same u x t c.requires.rests) ∙ sym (gone_top u x t i c.instr_at-instr.ensures)) in
    e

pub returns-clause-fits : goal.returns-clause-fits
returns-clause-fits c =
    let u = c.args.unit.now in
    let h = c.args.heap.now in
    let s = c.args.slot in
    let x = object_at h s in
    let i = c.instr_at-instr.result.now in
    let t = has_top u x c.requires.fits in
    let e : c.settle.new.heap ≡ put_object h s (code_gone_on u x) =
    put_then h c.pass.new.heap c.settle.new.heap s (gone x (top_at h s) (under_top x.frames) i) (settled_at u) c.requires.slot c.pass.ensures c.settle.ensures
    ∙ ap (put_object h s)
    (settled_gone u x (top_at h s) (under_top x.frames) i (settled_same u x t c.requires.rests) ∙ sym (gone_top u x t i c.instr_at-instr.ensures)) in
    subst (FitsUnit u) (sym (object_then h c.settle.new.heap s (code_gone_on u x) c.requires.slot e))
    (gone_on_of u c.requires.proper AnyValue plain_any x c.requires.fits c.requires.going_on)

pub returns-clause-rests : goal.returns-clause-rests
returns-clause-rests c =
    let u = c.args.unit.now in
    let h = c.args.heap.now in
    let s = c.args.slot in
    let x = object_at h s in
    let i = c.instr_at-instr.result.now in
    let t = has_top u x c.requires.fits in
    let e : c.settle.new.heap ≡ put_object h s (code_gone_on u x) =
    put_then h c.pass.new.heap c.settle.new.heap s (gone x (top_at h s) (under_top x.frames) i) (settled_at u) c.requires.slot c.pass.ensures c.settle.ensures
    ∙ ap (put_object h s)
    (settled_gone u x (top_at h s) (under_top x.frames) i (settled_same u x t c.requires.rests) ∙ sym (gone_top u x t i c.instr_at-instr.ensures)) in
    subst (IsAtStep u) (sym (object_then h c.settle.new.heap s (code_gone_on u x) c.requires.slot e))
    (gone_on_rests u c.requires.proper AnyValue plain_any x c.requires.fits c.requires.going_on c.requires.rests)
