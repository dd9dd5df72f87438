use Rattle.std.proofs.Common.{◌∙◌, ap, sym, arith}
use Rattle.search_laws.specs.Dead.{changes}
use Rattle.pool_search.proofs.PartLaws.{part_changed}
use Rattle.pool_search.proofs.changes.part_changes.Goals as goal

pub returns-then-times-gt0 : goal.returns-then-times-gt0
returns-then-times-gt0 c =
    let o = c.args.object in
    c.changes.ensures ∙ ap (changes o) c.label.ensures ∙ sym (part_changed o c.args.part.now (omega (arith, c.times.ensures, c.if-times-gt0.true)))
