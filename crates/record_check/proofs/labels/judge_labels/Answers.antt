use Rattle.std.proofs.Common.{ap, subst, sym, ◌∙◌}
use Rattle.std.specs.Prelude.{IfSome}
use Rattle.pool_syntax.specs.Terms.{ProgramTree}
use Rattle.pool_syntax.specs.TreeOf.{program_of}
use Rattle.pool_relation.specs.Transition.{start}
use Rattle.pool_semantics.specs.PlainOf.{configuration_of, program_tree}
use Rattle.record_check.specs.Verdicts.{StopsIn}
use Rattle.record_check.proofs.RunExtension.{stops_of}
use Rattle.record_check.proofs.labels.judge_labels.Goals as goal

pub returns-in-Ok-Some : goal.returns-in-Ok-Some
returns-in-Ok-Some c =
    let p = program_of c.args.program.now.program.now in
    let lines = c.args.lines.now in
    let from = configuration_of c.in_ok-plain.plain in
    let to = configuration_of c.follow.new.plain in
    stops_of p lines c.in-Ok-Some.stop.number c.in-Ok-Some.stop.redex from to (ap (start p) (sym c.root.ensures) ∙ c.in_ok-plain.ensures.start)
    (subst (λ (t : ProgramTree). StopsIn t from lines c.in-Ok-Some.stop.number to c.in-Ok-Some.stop.redex) c.in_ok-plain.ensures.program
    (subst (λ o. IfSome o (λ s. StopsIn (program_tree c.in_ok-plain.plain) from lines s.number to s.redex)) c.in-Ok-Some.field-0-is c.in-Ok-Some.ensures.stops))
