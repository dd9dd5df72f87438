use Rattle.std.proofs.Common.{◌≡◌, sym, ap, ◌∙◌, subst, arith}
use Rattle.node_heap.specs.Heaps.{object_at, put_object, top_at}
use Rattle.code_semantics.specs.StepInstructions.{AnyValue, FitsUnit, IsAtStep}
use Rattle.code_semantics.proofs.Laws.{plain_any, given_of, given_rests}
use Rattle.code_semantics.specs.Step.{code_given}
use Rattle.object_interp.specs.SettledObject.{settled_at}
use Rattle.object_interp.specs.Tops.{HasTop}
use Rattle.object_interp.proofs.TopFrames.{with_top}
use Rattle.object_interp.proofs.InnermostFrame.{has_top}
use Rattle.object_interp.proofs.Slots.{put_then, object_then}
use Rattle.object_interp.proofs.RequestSteps.{answerable, given_has_top, given_top}
use Rattle.object_interp.specs.Moves.{replaced}
use Rattle.object_interp.proofs.interp.resume_with.Goals as goal

pub operands_asked-taken-requires : goal.operands_asked-taken-requires
operands_asked-taken-requires c =
    let u = c.args.unit.now in
    let h = c.args.heap.now in
    let s = c.args.slot in
    let x = object_at h s in
    let i = c.instr_at.result.now in
    let a = answerable u c.requires.proper x (has_top u x c.requires.fits) i c.instr_at.ensures c.requires.asking in
    a.fits

pub replace-requires-clause-place : goal.replace-requires-clause-place
replace-requires-clause-place c =
    let u = c.args.unit.now in
    let h = c.args.heap.now in
    let s = c.args.slot in
    let x = object_at h s in
    let i = c.instr_at.result.now in
    let a = answerable u c.requires.proper x (has_top u x c.requires.fits) i c.instr_at.ensures c.requires.asking in
    a.place

pub replace-requires-clause-enough : goal.replace-requires-clause-enough
replace-requires-clause-enough c =
    let u = c.args.unit.now in
    let h = c.args.heap.now in
    let s = c.args.slot in
    let x = object_at h s in
    let i = c.instr_at.result.now in
    let a = answerable u c.requires.proper x (has_top u x c.requires.fits) i c.instr_at.ensures c.requires.asking in
    omega (arith, a.enough, c.operands_asked-taken.ensures)

pub replace-requires-clause-room : goal.replace-requires-clause-room
replace-requires-clause-room c =
    let u = c.args.unit.now in
    let h = c.args.heap.now in
    let s = c.args.slot in
    let x = object_at h s in
    let i = c.instr_at.result.now in
    let a = answerable u c.requires.proper x (has_top u x c.requires.fits) i c.instr_at.ensures c.requires.asking in
    omega (arith, a.room, c.operands_asked-taken.ensures)

pub settle-requires-clause-top : goal.settle-requires-clause-top
settle-requires-clause-top c =
    let u = c.args.unit.now in
    let h = c.args.heap.now in
    let s = c.args.slot in
    let x = object_at h s in
    let i = c.instr_at.result.now in
    subst (HasTop u)
    (sym (object_then h c.replace.new.self s (with_top x (replaced (top_at h s) c.operands_asked-taken.result c.args.value)) c.requires.slot c.replace.ensures
    ∙ ap (λ n. with_top x (replaced (top_at h s) n c.args.value)) c.operands_asked-taken.ensures))
    (given_has_top u c.requires.proper x c.requires.fits i c.instr_at.ensures c.requires.asking c.args.value)

pub returns-clause-given : goal.returns-clause-given
returns-clause-given c =
    let u = c.args.unit.now in
    let h = c.args.heap.now in
    let s = c.args.slot in
    let x = object_at h s in
    let i = c.instr_at.result.now in
    let e : c.settle.new.heap ≡ put_object h s (code_given u x c.args.value) =
    put_then h c.replace.new.self c.settle.new.heap s (with_top x (replaced (top_at h s) c.operands_asked-taken.result c.args.value)) (settled_at u) c.requires.slot c.replace.ensures c.settle.ensures
    ∙ ap (λ n. put_object h s (settled_at u (with_top x (replaced (top_at h s) n c.args.value)))) c.operands_asked-taken.ensures
    ∙ ap (put_object h s) (sym (given_top u x (has_top u x c.requires.fits) i c.instr_at.ensures c.args.value)) in
    e

pub returns-clause-fits : goal.returns-clause-fits
returns-clause-fits c =
    let u = c.args.unit.now in
    let h = c.args.heap.now in
    let s = c.args.slot in
    let x = object_at h s in
    let i = c.instr_at.result.now in
    let e : c.settle.new.heap ≡ put_object h s (code_given u x c.args.value) =
    put_then h c.replace.new.self c.settle.new.heap s (with_top x (replaced (top_at h s) c.operands_asked-taken.result c.args.value)) (settled_at u) c.requires.slot c.replace.ensures c.settle.ensures
    ∙ ap (λ n. put_object h s (settled_at u (with_top x (replaced (top_at h s) n c.args.value)))) c.operands_asked-taken.ensures
    ∙ ap (put_object h s) (sym (given_top u x (has_top u x c.requires.fits) i c.instr_at.ensures c.args.value)) in
    subst (FitsUnit u) (sym (object_then h c.settle.new.heap s (code_given u x c.args.value) c.requires.slot e))
    (given_of u c.requires.proper AnyValue plain_any x c.requires.fits c.args.value tt c.requires.asking)

pub returns-clause-rests : goal.returns-clause-rests
returns-clause-rests c =
    let u = c.args.unit.now in
    let h = c.args.heap.now in
    let s = c.args.slot in
    let x = object_at h s in
    let i = c.instr_at.result.now in
    let e : c.settle.new.heap ≡ put_object h s (code_given u x c.args.value) =
    put_then h c.replace.new.self c.settle.new.heap s (with_top x (replaced (top_at h s) c.operands_asked-taken.result c.args.value)) (settled_at u) c.requires.slot c.replace.ensures c.settle.ensures
    ∙ ap (λ n. put_object h s (settled_at u (with_top x (replaced (top_at h s) n c.args.value)))) c.operands_asked-taken.ensures
    ∙ ap (put_object h s) (sym (given_top u x (has_top u x c.requires.fits) i c.instr_at.ensures c.args.value)) in
    subst (IsAtStep u) (sym (object_then h c.settle.new.heap s (code_given u x c.args.value) c.requires.slot e))
    (given_rests u c.requires.proper AnyValue plain_any x c.requires.fits c.args.value tt c.requires.asking c.requires.rests)
