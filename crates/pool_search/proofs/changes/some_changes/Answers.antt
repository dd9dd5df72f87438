use Rattle.std.proofs.Common.{◌∙◌, ◌<◌, ◌+◌, ◌||◌, ap, sym, drop, length, arith}
use Rattle.label_list.specs.Parts.{labels_in}
use Rattle.search_laws.specs.Dead.{some_changes}
use Rattle.pool_search.proofs.PartLaws.{changes_left}
use Rattle.pool_search.proofs.changes.some_changes.Goals as goal

pub returns-then-part_changes : goal.returns-then-part_changes
returns-then-part_changes c =
    let l = c.loop-part in
    let o = c.args.object in
    let ps = c.parts-part-items.result.now in
    let rest = some_changes o (labels_in (drop (l.part-index + 1) ps)) in
    let inside : l.part-index < length ps = omega (arith, c.loop-part-test.true, l.auto.part-index-end) in
    sym (sym l.invariant ∙ changes_left o ps l.part-index c.part-item.result inside c.part-item.is ∙ ap (λ b. b || rest) (sym c.part_changes.ensures ∙ c.if-part_changes.true))

pub loop-part-preserved : goal.loop-part-preserved
loop-part-preserved c =
    let l = c.loop-part in
    let o = c.args.object in
    let ps = c.parts-part-items.result.now in
    let rest = some_changes o (labels_in (drop (l.part-index + 1) ps)) in
    let inside : l.part-index < length ps = omega (arith, c.loop-part-test.true, l.auto.part-index-end) in
    sym (changes_left o ps l.part-index c.part-item.result inside c.part-item.is ∙ ap (λ b. b || rest) (sym c.part_changes.ensures ∙ c.if-part_changes.false)) ∙ l.invariant
