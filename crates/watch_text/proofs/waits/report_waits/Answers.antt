use Rattle.std.proofs.Common.{Some, ◌≡◌, sym, ap, subst, ◌∙◌}
use Rattle.std.specs.Prelude.{IfOk}
use Rattle.pool_syntax.specs.Terms.{ProgramTree}
use Rattle.pool_syntax.specs.TreeOf.{program_of}
use Rattle.pool_relation.specs.Transition.{start}
use Rattle.pool_semantics.specs.PlainOf.{configuration_of}
use Rattle.record_check.specs.RecordJudgement.{root}
use Rattle.watch_text.specs.Waits.{IsWaits}
use Rattle.watch_text.proofs.waits.report_waits.Goals as goal

pub report_from-requires-clause-starts : goal.report_from-requires-clause-starts
report_from-requires-clause-starts c =
    let from = configuration_of c.in-Ok.plain in
    subst (λ (q : ProgramTree). start q (root c.args.lines.now) ≡ Some from) (sym c.in-Ok.ensures.program)
    (ap (start (program_of c.args.program.now.program.now)) (sym c.root.ensures) ∙ c.in-Ok.ensures.start)

pub returns : goal.returns
returns c =
    subst (λ (q : ProgramTree). IfOk c.report_from.result (λ w. IsWaits q c.args.names.now c.args.lines.now w.text.items w.verdict)) c.in-Ok.ensures.program c.report_from.ensures
