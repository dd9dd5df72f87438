use Rattle.std.proofs.Common.{◌∙◌, sym, ap, subst, Some}
use Rattle.std.specs.Prelude.{if◌then◌else◌, ◌==◌}
use Rattle.code_semantics.specs.Kinds.{instr_kind}
use Rattle.node_heap.specs.Heaps.{object_at, top_at}
use Rattle.object_interp.specs.declared.types.Burst.TheVariants as B
use Rattle.object_interp.specs.Bursts.{IsBurst, is_local}
use Rattle.object_interp.specs.Offers.{need_of}
use Rattle.object_interp.specs.Tops.{instr_in}
use Rattle.object_interp.proofs.RequestSteps.{kind_top}
use Rattle.object_interp.proofs.BurstSteps.{call_local, ends_at, ends_full, more_bursting, start_bursting}
use Rattle.object_interp.proofs.InnermostFrame.{has_top, hand_there, hand_within}
use Rattle.object_interp.proofs.interp.burst.Goals as goal

pub loop-done-init : goal.loop-done-init
loop-done-init c = (start_bursting c.args.unit.now c.args.heap.now c.args.slot c.args.quantum c.requires.fits c.requires.rests, c.code_at-code.ensures)

pub bounds-code-at : goal.bounds-code-at
bounds-code-at c =
    let u = c.args.unit.now in let t = c.loop-done.invariant in let y = object_at c.loop-done.heap c.args.slot in
    hand_within u c.requires.proper y (has_top u y t.0.fits) c.loop-done.code.now c.at.result t.1 c.at.ensures

pub step-requires-clause-at : goal.step-requires-clause-at
step-requires-clause-at c =
    let u = c.args.unit.now in let t = c.loop-done.invariant in let y = object_at c.loop-done.heap c.args.slot in
    hand_there u y c.loop-done.code.now c.at.result c.index-code-at.result t.1 c.at.ensures
    (hand_within u c.requires.proper y (has_top u y t.0.fits) c.loop-done.code.now c.at.result t.1 c.at.ensures) c.index-code-at.is

pub stopped_at-requires-clause-at : goal.stopped_at-requires-clause-at
stopped_at-requires-clause-at c =
    let u = c.args.unit.now in let t = c.loop-done.invariant in let y = object_at c.loop-done.heap c.args.slot in let i = c.index-code-at.result in
    ap (λ b. instr_in u (object_at b c.args.slot)) c.in-None.ensures.same
    ∙ hand_there u y c.loop-done.code.now c.at.result i t.1 c.at.ensures
    (hand_within u c.requires.proper y (has_top u y t.0.fits) c.loop-done.code.now c.at.result t.1 c.at.ensures) c.index-code-at.is

pub returns-then-not-frame_is_free-clause-burst : goal.returns-then-not-frame_is_free-clause-burst
returns-then-not-frame_is_free-clause-burst c =
    let u = c.args.unit.now in let h = c.args.heap.now in let s = c.args.slot in let now = c.loop-done.heap in let t = c.loop-done.invariant in
    let y = object_at now s in let i = c.index-code-at.result in let full = sym c.if-not-frame_is_free.ensures.free in
    let at = hand_there u y c.loop-done.code.now c.at.result i t.1 c.at.ensures
    (hand_within u c.requires.proper y (has_top u y t.0.fits) c.loop-done.code.now c.at.result t.1 c.at.ensures) c.index-code-at.is in
    let kind = kind_top u y (has_top u y t.0.fits) i at in
    ends_full u h s c.args.quantum c.requires.proper c.loop-done.done now c.requires.slot t.0 i c.loop-done-test.true
    (ap is_local kind ∙ call_local (top_at now s) now i full) at full c.frame_is_free.ensures.within c.stopped_full.result c.stopped_full.ensures

pub returns-in-None-clause-burst : goal.returns-in-None-clause-burst
returns-in-None-clause-burst c =
    let u = c.args.unit.now in let h = c.args.heap.now in let s = c.args.slot in let now = c.loop-done.heap in let t = c.loop-done.invariant in
    let y = object_at now s in let i = c.index-code-at.result in let same = c.in-None.ensures.same in
    let at = hand_there u y c.loop-done.code.now c.at.result i t.1 c.at.ensures
    (hand_within u c.requires.proper y (has_top u y t.0.fits) c.loop-done.code.now c.at.result t.1 c.at.ensures) c.index-code-at.is in
    let kind = kind_top u y (has_top u y t.0.fits) i at in
    let told = c.stopped_at.ensures
    ∙ ap (λ b. if c.loop-done.done == 0 then B.At (need_of u (instr_kind (top_at b s) (Some i))) else B.Local c.loop-done.done) same
    ∙ ap (λ k. if c.loop-done.done == 0 then B.At (need_of u k) else B.Local c.loop-done.done) (sym kind) in
    subst (λ b. IsBurst u h s c.args.quantum c.stopped_at.result b) (sym same)
    (ends_at u h s c.args.quantum c.requires.proper c.loop-done.done now c.requires.slot t.0 c.loop-done-test.true
    (ap is_local kind ∙ sym c.in-None.ensures.local) c.stopped_at.result told)

pub loop-done-preserved : goal.loop-done-preserved
loop-done-preserved c =
    let u = c.args.unit.now in let h = c.args.heap.now in let s = c.args.slot in let now = c.loop-done.heap in let t = c.loop-done.invariant in
    let y = object_at now s in let i = c.index-code-at.result in
    let at = hand_there u y c.loop-done.code.now c.at.result i t.1 c.at.ensures
    (hand_within u c.requires.proper y (has_top u y t.0.fits) c.loop-done.code.now c.at.result t.1 c.at.ensures) c.index-code-at.is in
    let kind = kind_top u y (has_top u y t.0.fits) i at in (
      more_bursting u h s c.args.quantum c.requires.proper c.loop-done.done now c.requires.slot t.0 c.step.new.heap i c.loop-done-test.true
          at (ap is_local kind ∙ sym c.in-Some.ensures.local) (sym c.if-not-frame_is_free.ensures.free) c.frame_is_free.ensures.within c.in-Some.ensures.made.0,
      c.in-Some.ensures.made.1,
    )
