use Rattle.std.proofs.Common.{◌≡◌, refl, ◌∙◌, sym, ap, subst}
use Rattle.run_types.specs.declared.frames.CodeObject.{CodeObject}
use Rattle.node_heap.specs.Heaps.{object_at, put_object, top_at, under_top}
use Rattle.object_interp.specs.Bursts.{name_in}
use Rattle.object_interp.specs.Moves.{moved}
use Rattle.object_interp.specs.SettledObject.{settled_at}
use Rattle.object_interp.specs.Tops.{HasTop, class_in, code_in}
use Rattle.object_interp.proofs.InnermostFrame.{has_top}
use Rattle.object_interp.proofs.SilentSteps.{settled_code, settled_in}
use Rattle.object_interp.proofs.LocalSteps.{code_kept, moved_top, settled_moved, settled_same, stepped_top}
use Rattle.object_interp.proofs.Slots.{object_then, put_then, still_there}
use Rattle.object_interp.proofs.moves.step.Goals as goal

pub code_after-code-requires-clause-slot : goal.code_after-code-requires-clause-slot
code_after-code-requires-clause-slot c =
    let u = c.args.unit.now in let h = c.args.heap.now in let s = c.args.slot in let x = object_at h s in
    still_there h c.act.new.heap s (moved (class_in u x) (name_in h s) x (top_at h s) (under_top x.frames) c.args.instr.now) c.requires.slot (c.if-not-act.ensures.made refl)

pub code_after-code-requires-clause-top : goal.code_after-code-requires-clause-top
code_after-code-requires-clause-top c =
    let u = c.args.unit.now in let h = c.args.heap.now in let s = c.args.slot in let x = object_at h s in
    let y = moved (class_in u x) (name_in h s) x (top_at h s) (under_top x.frames) c.args.instr.now in
    subst (HasTop u) (sym (object_then h c.act.new.heap s y c.requires.slot (c.if-not-act.ensures.made refl)))
    (moved_top u c.requires.proper x c.requires.fits (name_in h s) c.args.instr.now c.requires.at)

pub code_after-code-requires-clause-code : goal.code_after-code-requires-clause-code
code_after-code-requires-clause-code c stays =
    let u = c.args.unit.now in let h = c.args.heap.now in let s = c.args.slot in let x = object_at h s in
    let y = moved (class_in u x) (name_in h s) x (top_at h s) (under_top x.frames) c.args.instr.now in
    c.requires.code ∙ sym (code_kept u (name_in h s) x c.args.instr.now stays) ∙ ap (code_in u) (sym (object_then h c.act.new.heap s y c.requires.slot (c.if-not-act.ensures.made refl)))

pub settle_in-requires-clause-top : goal.settle_in-requires-clause-top
settle_in-requires-clause-top c =
    let u = c.args.unit.now in let h = c.args.heap.now in let s = c.args.slot in let x = object_at h s in
    let y = moved (class_in u x) (name_in h s) x (top_at h s) (under_top x.frames) c.args.instr.now in (
      u,
      c.requires.proper,
      subst (HasTop u) (sym (object_then h c.act.new.heap s y c.requires.slot (c.if-not-act.ensures.made refl))) (moved_top u c.requires.proper x c.requires.fits (name_in h s) c.args.instr.now c.requires.at),
      c.code_after-code.ensures,
    )

pub returns-clause-made : goal.returns-clause-made
returns-clause-made c =
    let u = c.args.unit.now in let h = c.args.heap.now in let s = c.args.slot in let x = object_at h s in
    let i = c.args.instr.now in
    let o = name_in h s in
    let t = has_top u x c.requires.fits in
    let rest = settled_same u x t c.requires.rests in
    let y : CodeObject = moved (class_in u x) o x (top_at h s) (under_top x.frames) i in
    let acted : c.act.new.heap ≡ put_object h s y = c.if-not-act.ensures.made refl in
    let top_y : HasTop u y = moved_top u c.requires.proper x c.requires.fits o i c.requires.at in
    let object_y : object_at c.act.new.heap s ≡ y = object_then h c.act.new.heap s y c.requires.slot acted in
    let settled : c.settle_in.new.heap ≡ put_object c.act.new.heap s (settled_at u (object_at c.act.new.heap s)) =
    c.settle_in.ensures ∙ sym (settled_in u c.act.new.heap s c.code_after-code.result.now (subst (HasTop u) (sym object_y) top_y) c.code_after-code.ensures) in
    let new_is : c.settle_in.new.heap ≡ put_object h s (settled_at u y) = put_then h c.act.new.heap c.settle_in.new.heap s y (settled_at u) c.requires.slot acted settled in (
      new_is ∙ ap (put_object h s) (settled_moved u o x rest (top_at h s) (under_top x.frames) i ∙ sym (stepped_top u o x i t c.requires.at)),
      c.code_after-code.ensures ∙ ap (code_in u) object_y ∙ sym (settled_code u y top_y.some) ∙ ap (code_in u) (sym (object_then h c.settle_in.new.heap s (settled_at u y) c.requires.slot new_is)),
    )
