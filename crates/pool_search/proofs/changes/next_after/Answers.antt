use Rattle.std.proofs.Common.{◌∙◌, ◌<◌, ◌+◌, ap, sym, drop, length, arith}
use Rattle.label_list.specs.Parts.{labels_in}
use Rattle.reachability.specs.Search.{in_order}
use Rattle.search_laws.specs.ClosedBeside.{after_all}
use Rattle.pool_search.proofs.PartLaws.{after_locals, locals_in_order, locals_left}
use Rattle.pool_search.proofs.changes.next_after.Goals as goal

pub loop-part-preserved-in_default : goal.loop-part-preserved-in_default
loop-part-preserved-in_default c =
    let l = c.loop-part in
    let ps = c.parts-part-items.result.now in
    let o = c.in_default.field-0 in
    let n = c.in_default.field-1 in
    let inside : l.part-index < length ps = omega (arith, c.loop-part-test.true, l.auto.part-index-end) in
    let left = locals_left ps l.part-index c.part-item.result o n inside c.part-item.is c.in_default.is in
    let rest = labels_in (drop (l.part-index + 1) ps) in
    record {
      order = sym (ap (in_order l.next) left ∙ locals_in_order l.next n o rest) ∙ l.invariant.order;
      next = sym (ap (after_all l.next) left ∙ after_locals l.next n o rest) ∙ l.invariant.next;
    }
