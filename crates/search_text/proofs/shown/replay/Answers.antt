use Rattle.std.proofs.Common.{◌≡◌, ◌∙◌, ◌<◌, ◌+◌, List, [], length, drop, replicate, ℕ, Some, None, Ok, ap, subst, arith}
use Rattle.std.proofs.lemmas.List.{drop_all}
use Rattle.run_types.specs.declared.types.Label.{Label}
use Rattle.label_list.specs.Parts.{labels_in, labels_of, times_of}
use Rattle.label_list.proofs.Laws.{labels_left}
use Rattle.pool_syntax.specs.TreeOf.{program_of}
use Rattle.pool_syntax.specs.Terms.{ProgramTree}
use Rattle.pool_relation.specs.Transition.{run}
use Rattle.pool_semantics.specs.PlainOf.{configuration_of, program_tree}
use Rattle.search_text.proofs.RunLaws.{begun, is_possible, led, more_made}
use Rattle.search_text.proofs.shown.replay.Goals as goal

pub loop-part-init : goal.loop-part-init
loop-part-init c =
    let h = c.in_ok-plain.ensures in
    let p = program_of c.args.program.now.program.now in
    (h.program, begun p c.args.labels.now (configuration_of c.in_ok-plain.plain) (labels_in c.parts-part-items.result.now) h.start c.parts-part-items.ensures)

pub loop-part-preserved : goal.loop-part-preserved
loop-part-preserved c =
    let l = c.loop-part in
    let p = program_of c.args.program.now.program.now in
    let ps = c.parts-part-items.result.now in
    let part = c.part-item.result in
    let from = configuration_of l.plain in
    let to = configuration_of c.repeat.new.plain in
    let rest = labels_in (drop (l.part-index + 1) ps) in
    let inside : l.part-index < length ps = omega (arith, c.loop-part-test.true, l.auto.part-index-end) in
    let labels : replicate c.times.result c.label.result ≡ labels_of part = ap (λ (n : ℕ). replicate n c.label.result) c.times.ensures ∙ ap (λ (x : Label). replicate (times_of part) x) c.label.ensures in
    let made : run (program_tree l.plain) from (replicate c.times.result c.label.result) ≡ Some to = c.in-Ok-true.ensures.made (ap Ok c.in-Ok-true.field-0-test) in
    let steps : run p from (labels_of part) ≡ Some to =
    subst (λ (q : ProgramTree). run q from (labels_of part) ≡ Some to) l.invariant.0 (subst (λ (ls : List Label). run (program_tree l.plain) from ls ≡ Some to) labels made) in (
      c.repeat.ensures.program ∙ l.invariant.0,
      more_made p c.args.labels.now (labels_in (drop l.part-index ps)) (labels_of part) rest from to (labels_left ps l.part-index part inside c.part-item.is) steps l.invariant.1,
    )

pub unreachable-requires : goal.unreachable-requires
unreachable-requires c =
    let l = c.loop-part in
    let p = program_of c.args.program.now.program.now in
    let ps = c.parts-part-items.result.now in
    let part = c.part-item.result in
    let from = configuration_of l.plain in
    let rest = labels_in (drop (l.part-index + 1) ps) in
    let inside : l.part-index < length ps = omega (arith, c.loop-part-test.true, l.auto.part-index-end) in
    let labels : replicate c.times.result c.label.result ≡ labels_of part = ap (λ (n : ℕ). replicate n c.label.result) c.times.ensures ∙ ap (λ (x : Label). replicate (times_of part) x) c.label.ensures in
    let refused : run (program_tree l.plain) from (replicate c.times.result c.label.result) ≡ None = c.in-Ok-false.ensures.refused (ap Ok c.in-Ok-false.field-0-test) in
    let none : run p from (labels_of part) ≡ None =
    subst (λ (q : ProgramTree). run q from (labels_of part) ≡ None) l.invariant.0 (subst (λ (ls : List Label). run (program_tree l.plain) from ls ≡ None) labels refused) in
    is_possible p c.args.labels.now _ (labels_in (drop l.part-index ps)) (labels_of part) rest from c.requires (labels_left ps l.part-index part inside c.part-item.is) l.invariant.1 none

pub returns-clause-last : goal.returns-clause-last
returns-clause-last c =
    let l = c.loop-part in
    let ps = c.parts-part-items.result.now in
    let none : labels_in (drop l.part-index ps) ≡ [] = ap labels_in (drop_all l.part-index ps (omega (arith, c.loop-part-test.false))) in
    led (program_of c.args.program.now.program.now) c.args.labels.now (configuration_of l.plain) (labels_in (drop l.part-index ps)) none l.invariant.1
