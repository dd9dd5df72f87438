use Rattle.std.proofs.Common.{inl, refl, ◌∙◌, sym, ap, suc, length, Some, arith}
use Rattle.std.specs.Prelude.{slice_set}
use Rattle.code_semantics.specs.declared.unit.Instr.TheVariants as I
use Rattle.run_types.specs.Operands.{below}
use Rattle.code_semantics.specs.Frames.{next}
use Rattle.node_heap.specs.Heaps.{object_at, put_object, top_in, top_at, under_top}
use Rattle.object_interp.specs.Bursts.{name_in}
use Rattle.object_interp.specs.Moves.{moved}
use Rattle.object_interp.specs.Tops.{class_in}
use Rattle.object_interp.proofs.TopFrames.{with_top}
use Rattle.object_interp.proofs.InnermostFrame.{has_top}
use Rattle.object_interp.proofs.InstructionFacts.{instr_known, ret_frames}
use Rattle.object_interp.proofs.Slots.{put_then, object_then}
use Rattle.object_interp.proofs.moves.act.Goals as goal

pub load_var-value-requires-clause-place : goal.load_var-value-requires-clause-place
load_var-value-requires-clause-place c =
    let u = c.args.unit.now in
    let x = object_at c.args.heap.now c.args.slot in
    let t = has_top u x c.requires.fits in
    let known = instr_known u c.requires.proper x t (I.LoadI c.in-LoadI.var) (c.requires.at ∙ ap Some c.in-LoadI.is) in
    omega (arith, known.exists, c.requires.fits.count)

pub push_next-requires-clause-place : goal.push_next-requires-clause-place
push_next-requires-clause-place c =
    let u = c.args.unit.now in
    let x = object_at c.args.heap.now c.args.slot in
    let t = has_top u x c.requires.fits in
    let known = instr_known u c.requires.proper x t (I.LoadI c.in-LoadI.var) (c.requires.at ∙ ap Some c.in-LoadI.is) in
    (known.after (suc (top_in x.frames).at) (inl refl)).0

pub push_next-requires-clause-room : goal.push_next-requires-clause-room
push_next-requires-clause-room c =
    let u = c.args.unit.now in
    let x = object_at c.args.heap.now c.args.slot in
    let t = has_top u x c.requires.fits in
    let known = instr_known u c.requires.proper x t (I.LoadI c.in-LoadI.var) (c.requires.at ∙ ap Some c.in-LoadI.is) in
    let after = known.after (suc (top_in x.frames).at) (inl refl) in omega (arith, after.1)

pub load_temp-value-requires-clause-place : goal.load_temp-value-requires-clause-place
load_temp-value-requires-clause-place c =
    let u = c.args.unit.now in
    let x = object_at c.args.heap.now c.args.slot in
    let t = has_top u x c.requires.fits in
    let known = instr_known u c.requires.proper x t (I.LoadT c.in-LoadT.temp) (c.requires.at ∙ ap Some c.in-LoadT.is) in
    known.exists

pub push_next-requires-in-LoadT-clause-place : goal.push_next-requires-in-LoadT-clause-place
push_next-requires-in-LoadT-clause-place c =
    let u = c.args.unit.now in
    let x = object_at c.args.heap.now c.args.slot in
    let t = has_top u x c.requires.fits in
    let known = instr_known u c.requires.proper x t (I.LoadT c.in-LoadT.temp) (c.requires.at ∙ ap Some c.in-LoadT.is) in
    (known.after (suc (top_in x.frames).at) (inl refl)).0

pub push_next-requires-in-LoadT-clause-room : goal.push_next-requires-in-LoadT-clause-room
push_next-requires-in-LoadT-clause-room c =
    let u = c.args.unit.now in
    let x = object_at c.args.heap.now c.args.slot in
    let t = has_top u x c.requires.fits in
    let known = instr_known u c.requires.proper x t (I.LoadT c.in-LoadT.temp) (c.requires.at ∙ ap Some c.in-LoadT.is) in
    let after = known.after (suc (top_in x.frames).at) (inl refl) in omega (arith, after.1)

pub push_next-requires-in-SelfRef-clause-place : goal.push_next-requires-in-SelfRef-clause-place
push_next-requires-in-SelfRef-clause-place c =
    let u = c.args.unit.now in
    let x = object_at c.args.heap.now c.args.slot in
    let t = has_top u x c.requires.fits in
    let known = instr_known u c.requires.proper x t (I.SelfRef) (c.requires.at ∙ ap Some c.in-SelfRef.is) in
    (known.after (suc (top_in x.frames).at) (inl refl)).0

pub push_next-requires-in-SelfRef-clause-room : goal.push_next-requires-in-SelfRef-clause-room
push_next-requires-in-SelfRef-clause-room c =
    let u = c.args.unit.now in
    let x = object_at c.args.heap.now c.args.slot in
    let t = has_top u x c.requires.fits in
    let known = instr_known u c.requires.proper x t (I.SelfRef) (c.requires.at ∙ ap Some c.in-SelfRef.is) in
    let after = known.after (suc (top_in x.frames).at) (inl refl) in omega (arith, after.1)

pub pop_next-value-requires-clause-place : goal.pop_next-value-requires-clause-place
pop_next-value-requires-clause-place c =
    let u = c.args.unit.now in
    let x = object_at c.args.heap.now c.args.slot in
    let t = has_top u x c.requires.fits in
    let known = instr_known u c.requires.proper x t (I.StoreI c.in-StoreI.var) (c.requires.at ∙ ap Some c.in-StoreI.is) in
    (known.after (suc (top_in x.frames).at) (inl refl)).0

pub pop_next-value-requires-clause-one : goal.pop_next-value-requires-clause-one
pop_next-value-requires-clause-one c =
    let u = c.args.unit.now in
    let x = object_at c.args.heap.now c.args.slot in
    let t = has_top u x c.requires.fits in
    let known = instr_known u c.requires.proper x t (I.StoreI c.in-StoreI.var) (c.requires.at ∙ ap Some c.in-StoreI.is) in
    omega (arith, known.enough)

pub store_var-requires-clause-place : goal.store_var-requires-clause-place
store_var-requires-clause-place c =
    let u = c.args.unit.now in
    let x = object_at c.args.heap.now c.args.slot in
    let t = has_top u x c.requires.fits in
    let known = instr_known u c.requires.proper x t (I.StoreI c.in-StoreI.var) (c.requires.at ∙ ap Some c.in-StoreI.is) in
    let f = top_at c.args.heap.now c.args.slot in
    let e = object_then c.args.heap.now c.pop_next-value.new.self c.args.slot (with_top x (next f (below f.operands))) c.requires.slot c.pop_next-value.ensures.rest in
    omega (arith, known.exists, c.requires.fits.count, ap (λ y. length y.vars) e)

pub pop_next-value-requires-in-StoreT-clause-place : goal.pop_next-value-requires-in-StoreT-clause-place
pop_next-value-requires-in-StoreT-clause-place c =
    let u = c.args.unit.now in
    let x = object_at c.args.heap.now c.args.slot in
    let t = has_top u x c.requires.fits in
    let known = instr_known u c.requires.proper x t (I.StoreT c.in-StoreT.temp) (c.requires.at ∙ ap Some c.in-StoreT.is) in
    (known.after (suc (top_in x.frames).at) (inl refl)).0

pub pop_next-value-requires-in-StoreT-clause-one : goal.pop_next-value-requires-in-StoreT-clause-one
pop_next-value-requires-in-StoreT-clause-one c =
    let u = c.args.unit.now in
    let x = object_at c.args.heap.now c.args.slot in
    let t = has_top u x c.requires.fits in
    let known = instr_known u c.requires.proper x t (I.StoreT c.in-StoreT.temp) (c.requires.at ∙ ap Some c.in-StoreT.is) in
    omega (arith, known.enough)

pub store_temp-requires-clause-place : goal.store_temp-requires-clause-place
store_temp-requires-clause-place c =
    let u = c.args.unit.now in
    let x = object_at c.args.heap.now c.args.slot in
    let t = has_top u x c.requires.fits in
    let known = instr_known u c.requires.proper x t (I.StoreT c.in-StoreT.temp) (c.requires.at ∙ ap Some c.in-StoreT.is) in
    let f = top_at c.args.heap.now c.args.slot in
    let e = object_then c.args.heap.now c.pop_next-value-in-StoreT.new.self c.args.slot (with_top x (next f (below f.operands))) c.requires.slot c.pop_next-value-in-StoreT.ensures.rest in
    omega (arith, known.exists, ap (λ y. length (top_in y.frames).temps) e)

pub apply-requires-clause-enough : goal.apply-requires-clause-enough
apply-requires-clause-enough c =
    let u = c.args.unit.now in
    let x = object_at c.args.heap.now c.args.slot in
    let t = has_top u x c.requires.fits in
    let known = instr_known u c.requires.proper x t (I.Oper c.in-Oper.op) (c.requires.at ∙ ap Some c.in-Oper.is) in
    omega (arith, known.enough)

pub apply-requires-clause-place : goal.apply-requires-clause-place
apply-requires-clause-place c =
    let u = c.args.unit.now in
    let x = object_at c.args.heap.now c.args.slot in
    let t = has_top u x c.requires.fits in
    let known = instr_known u c.requires.proper x t (I.Oper c.in-Oper.op) (c.requires.at ∙ ap Some c.in-Oper.is) in
    (known.after (suc (top_in x.frames).at) (inl refl)).0

pub apply-requires-clause-room : goal.apply-requires-clause-room
apply-requires-clause-room c =
    let u = c.args.unit.now in
    let x = object_at c.args.heap.now c.args.slot in
    let t = has_top u x c.requires.fits in
    let known = instr_known u c.requires.proper x t (I.Oper c.in-Oper.op) (c.requires.at ∙ ap Some c.in-Oper.is) in
    let after = known.after (suc (top_in x.frames).at) (inl refl) in omega (arith, after.1)

pub pop_next-requires-clause-place : goal.pop_next-requires-clause-place
pop_next-requires-clause-place c =
    let u = c.args.unit.now in
    let x = object_at c.args.heap.now c.args.slot in
    let t = has_top u x c.requires.fits in
    let known = instr_known u c.requires.proper x t (I.Pop) (c.requires.at ∙ ap Some c.in-Pop.is) in
    (known.after (suc (top_in x.frames).at) (inl refl)).0

pub pop_next-requires-clause-one : goal.pop_next-requires-clause-one
pop_next-requires-clause-one c =
    let u = c.args.unit.now in
    let x = object_at c.args.heap.now c.args.slot in
    let t = has_top u x c.requires.fits in
    let known = instr_known u c.requires.proper x t (I.Pop) (c.requires.at ∙ ap Some c.in-Pop.is) in
    omega (arith, known.enough)

pub branch-heap-requires-clause-place : goal.branch-heap-requires-clause-place
branch-heap-requires-clause-place c =
    let u = c.args.unit.now in
    let x = object_at c.args.heap.now c.args.slot in
    let t = has_top u x c.requires.fits in
    let known = instr_known u c.requires.proper x t (I.Branch c.in-Branch.to) (c.requires.at ∙ ap Some c.in-Branch.is) in
    (known.after (suc (top_in x.frames).at) (inl refl)).0

pub branch-heap-requires-clause-one : goal.branch-heap-requires-clause-one
branch-heap-requires-clause-one c =
    let u = c.args.unit.now in
    let x = object_at c.args.heap.now c.args.slot in
    let t = has_top u x c.requires.fits in
    let known = instr_known u c.requires.proper x t (I.Branch c.in-Branch.to) (c.requires.at ∙ ap Some c.in-Branch.is) in
    omega (arith, known.enough)

pub advance-requires-clause-place : goal.advance-requires-clause-place
advance-requires-clause-place c =
    let u = c.args.unit.now in
    let x = object_at c.args.heap.now c.args.slot in
    let t = has_top u x c.requires.fits in
    let known = instr_known u c.requires.proper x t (I.Loop) (c.requires.at ∙ ap Some c.in-Loop.is) in
    (known.after (suc (top_in x.frames).at) (inl refl)).0

pub leave-requires-clause-one : goal.leave-requires-clause-one
leave-requires-clause-one c =
    let u = c.args.unit.now in
    let x = object_at c.args.heap.now c.args.slot in
    let t = has_top u x c.requires.fits in
    let known = instr_known u c.requires.proper x t (I.Ret) (c.requires.at ∙ ap Some c.in-Ret.is) in
    omega (arith, known.enough)

pub leave-requires-clause-frames : goal.leave-requires-clause-frames
leave-requires-clause-frames c =
    let u = c.args.unit.now in
    let x = object_at c.args.heap.now c.args.slot in
    let t = has_top u x c.requires.fits in
    let known = instr_known u c.requires.proper x t (I.Ret) (c.requires.at ∙ ap Some c.in-Ret.is) in
    (ret_frames u c.requires.proper x c.requires.fits (c.requires.at ∙ ap Some c.in-Ret.is)).0

pub leave-requires-clause-room : goal.leave-requires-clause-room
leave-requires-clause-room c =
    let u = c.args.unit.now in
    let x = object_at c.args.heap.now c.args.slot in
    let t = has_top u x c.requires.fits in
    let known = instr_known u c.requires.proper x t (I.Ret) (c.requires.at ∙ ap Some c.in-Ret.is) in
    (ret_frames u c.requires.proper x c.requires.fits (c.requires.at ∙ ap Some c.in-Ret.is)).1

pub returns-in-StoreI-clause-made : goal.returns-in-StoreI-clause-made
returns-in-StoreI-clause-made c _ =
    let h = c.args.heap.now in
    let s = c.args.slot in
    let x = object_at h s in
    let f = top_at h s in
    let n = c.in-StoreI.var in
    let y = with_top x (next f (below f.operands)) in
    put_then h c.pop_next-value.new.self c.store_var.new.self s y
    (λ z. record z { vars = slice_set z.vars n c.pop_next-value.result }) c.requires.slot c.pop_next-value.ensures.rest c.store_var.ensures
    ∙ ap (λ v. put_object h s (record y { vars = slice_set y.vars n v })) c.pop_next-value.ensures.value
    ∙ ap (λ i. put_object h s (moved (class_in c.args.unit.now x) (name_in h s) x f (under_top x.frames) i)) (sym c.in-StoreI.is)

pub returns-in-StoreT-clause-made : goal.returns-in-StoreT-clause-made
returns-in-StoreT-clause-made c _ =
    let h = c.args.heap.now in
    let s = c.args.slot in
    let x = object_at h s in
    let f = top_at h s in
    let n = c.in-StoreT.temp in
    let g = next f (below f.operands) in
    put_then h c.pop_next-value-in-StoreT.new.self c.store_temp.new.self s (with_top x g)
    (λ z. with_top z (record (top_in z.frames) { temps = slice_set (top_in z.frames).temps n c.pop_next-value-in-StoreT.result }))
    c.requires.slot c.pop_next-value-in-StoreT.ensures.rest c.store_temp.ensures
    ∙ ap (λ v. put_object h s (with_top x (record g { temps = slice_set f.temps n v }))) c.pop_next-value-in-StoreT.ensures.value
    ∙ ap (λ i. put_object h s (moved (class_in c.args.unit.now x) (name_in h s) x f (under_top x.frames) i)) (sym c.in-StoreT.is)
