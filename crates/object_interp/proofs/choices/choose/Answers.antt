use Rattle.std.proofs.Common.{◌≡◌, sym, ap, ◌∙◌, subst, ◌-◌, ◌<◌, length, Some, get_or, arith}
use Rattle.std.specs.Prelude.{slice_get}
use Rattle.std.proofs.lemmas.Option.{slice_get-get_or}
use Rattle.run_types.specs.Operands.{dropped}
use Rattle.code_semantics.specs.Step.{after_choice, at_alternative}
use Rattle.node_heap.specs.Heaps.{object_at, put_object, top_in, top_at}
use Rattle.object_interp.specs.Choices.{Chooses}
use Rattle.object_interp.proofs.TopFrames.{with_top}
use Rattle.object_interp.proofs.Slots.{put_then}
use Rattle.object_interp.proofs.choices.choose.Goals as goal

pub returns-in-Select : goal.returns-in-Select
returns-in-Select c =
    let h = c.args.heap.now in
    let s = c.args.slot in
    let x = object_at h s in
    let f = top_at h s in
    let items = c.items-alts.result.now in
    let j = c.args.alt - 1 in
    let a = get_or items j c.index-alts-alt.result in
    let chooses = subst (λ i. Chooses f i c.args.alt) c.in-Select.is c.requires.chooses in
    let within : j < length items = omega (arith, chooses.0, chooses.1, ap length c.items-alts.ensures) in
    let here : slice_get c.in-Select.alts j ≡ Some a = ap (λ l. slice_get l j) (sym c.items-alts.ensures) ∙ slice_get-get_or items j c.index-alts-alt.result within in
    put_then h c.drop_operands.new.self c.set_at.new.self s (with_top x (record f { operands = dropped (length items) f.operands }))
    (λ y. with_top y (record (top_in y.frames) { at = a.at })) c.requires.slot c.drop_operands.ensures c.set_at.ensures
    ∙ ap (λ l. put_object h s (with_top x (record f { at = a.at; operands = dropped (length l) f.operands }))) c.items-alts.ensures
    ∙ ap (λ o. put_object h s (with_top x (at_alternative f (length c.in-Select.alts) o))) (sym here)
    ∙ ap (λ i. put_object h s (with_top x (after_choice f c.args.alt (Some i)))) (sym c.in-Select.is)
