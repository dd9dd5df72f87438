use Rattle.std.proofs.Common.{◌≡◌, ◌∙◌, ◌<◌, ◌+◌, suc, ap, sym, drop, length, true, false, arith}
use Rattle.std.specs.Prelude.{is_some}
use Rattle.label_list.specs.Parts.{labels_in}
use Rattle.label_list.proofs.Laws.{labels_left}
use Rattle.search_text.specs.Steps.{local_of, other_than_local}
use Rattle.search_text.proofs.StepLaws.{counted_part}
use Rattle.search_text.proofs.steps.other_than_local.Goals as goal
use Rattle.search_text.proofs.steps.other_than_local.Goals.{then-is_none, else-is_none}

pub loop-part-preserved : goal.loop-part-preserved
loop-part-preserved c =
    let l = c.loop-part in
    let ps = c.parts-part-items.result.now in
    let part = c.part-item.result in
    let rest = labels_in (drop (l.part-index + 1) ps) in
    let inside : l.part-index < length ps = omega (arith, c.loop-part-test.true, l.auto.part-index-end) in
    let left = ap other_than_local (labels_left ps l.part-index part inside c.part-item.is) in
    let object = ap (λ o. is_some o) (c.local_of.ensures ∙ ap local_of c.label.ensures) in
    elim c.if-is_none.branch [
      | then-is_none w ↦
          let one : other_than_local (labels_in (drop l.part-index ps)) ≡ suc (other_than_local rest) = left ∙ counted_part part rest false (sym object ∙ w.if-is_none.ensures) in
          (omega (arith, w.count-is, l.invariant.0), omega (arith, w.count-is, l.invariant.1, one))
      | else-is_none w ↦
          let one : other_than_local (labels_in (drop l.part-index ps)) ≡ other_than_local rest = left ∙ counted_part part rest true (sym object ∙ w.if-is_none.ensures) in
          (omega (arith, w.count-is, l.invariant.0), omega (arith, w.count-is, l.invariant.1, one))
    ]
