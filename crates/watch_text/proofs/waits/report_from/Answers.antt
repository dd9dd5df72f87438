use Rattle.std.proofs.Common.{◌≡◌, Some, sym, subst}
use Rattle.std.specs.Prelude.{IfNone, IfSome}
use Rattle.pool_syntax.specs.Terms.{ProgramTree}
use Rattle.pool_relation.specs.Transition.{run}
use Rattle.mesh_semantics.specs.Record.{labels}
use Rattle.pool_semantics.specs.PlainOf.{configuration_of, program_tree}
use Rattle.record_check.specs.RecordJudgement.{Judged, LeadsTo}
use Rattle.record_check.specs.Verdicts.{StopsIn}
use Rattle.watch_text.specs.Waits.{IsReport}
use Rattle.watch_text.proofs.JoinedLines.{none_in}
use Rattle.watch_text.proofs.ReportEnds.{both_ok, reports_end, reports_stop}
use Rattle.watch_text.proofs.WatchedEnds.{stopped_judged}
use Rattle.watch_text.proofs.waits.report_from.Goals as goal

pub returns-in-Ok-None : goal.returns-in-Ok-None
returns-in-Ok-None c =
    let names = c.args.names.now in
    let p = program_tree c.args.plain.now in
    let ls = c.args.lines.now in
    let from = configuration_of c.args.plain.now in
    let to = configuration_of c.follow.new.plain in
    let same = c.follow.ensures.program in
    let leads : run p from (labels ls) ≡ Some to = subst (λ o. IfNone o (run p from (labels ls) ≡ Some to)) c.in-Ok-None.field-0-is c.in-Ok-None.ensures.leads in
    both_ok c.report_end.result
    (λ w judged report. reports_end names p from to ls w.text.items w.verdict c.requires.starts leads
    (subst (λ (q : ProgramTree). LeadsTo q ls to → Judged q ls w.verdict) same judged)
    (subst (λ (q : ProgramTree). IsReport q names (Some to) w.text.items w.verdict) same report))
    c.report_end.ensures.judged c.report_end.ensures.report

pub returns-in-Ok-Some : goal.returns-in-Ok-Some
returns-in-Ok-Some c =
    let names = c.args.names.now in
    let p = program_tree c.args.plain.now in
    let ls = c.args.lines.now in
    let from = configuration_of c.args.plain.now in
    let to = configuration_of c.follow.new.plain in
    let stop = c.in-Ok-Some.stop in
    let stops : StopsIn p from ls stop.number to stop.redex = subst (λ o. IfSome o (λ s. StopsIn p from ls s.number to s.redex)) c.in-Ok-Some.field-0-is c.in-Ok-Some.ensures.stops in
    both_ok c.report_stop.result
    (λ w verdict text. reports_stop names p from to ls w.text.items w.verdict c.requires.starts (none_in p from to ls stop.number stop.redex stops)
    (subst (Judged p ls) (sym verdict) (stopped_judged names p from to ls stop.number stop.redex c.requires.starts stops)) text)
    c.report_stop.ensures.verdict c.report_stop.ensures.text
