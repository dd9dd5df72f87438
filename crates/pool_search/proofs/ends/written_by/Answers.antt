use Rattle.std.proofs.Common.{◌∙◌, ◌<◌, ◌+◌, ◌++◌, ap, sym, drop, length, arith}
use Rattle.label_list.specs.Parts.{labels_in}
use Rattle.reachability.specs.Outcomes.{written}
use Rattle.pool_search.proofs.PartLaws.{locals_left, locals_write}
use Rattle.pool_search.proofs.ends.written_by.Goals as goal

pub loop-part-preserved-in_default : goal.loop-part-preserved-in_default
loop-part-preserved-in_default c =
    let l = c.loop-part in
    let ps = c.parts-part-items.result.now in
    let o = c.in_default.field-0 in
    let n = c.in_default.field-1 in
    let inside : l.part-index < length ps = omega (arith, c.loop-part-test.true, l.auto.part-index-end) in
    let left = locals_left ps l.part-index c.part-item.result o n inside c.part-item.is c.in_default.is in
    ap (λ ws. l.items.items ++ ws) (sym (ap written left ∙ locals_write n o (labels_in (drop (l.part-index + 1) ps)))) ∙ l.invariant
