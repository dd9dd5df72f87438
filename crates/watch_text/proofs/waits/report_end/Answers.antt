use Rattle.std.proofs.Common.{◌≡◌, ◌++◌, List, ap, sym, subst, ◌∙◌}
use Rattle.record_check.specs.VerdictText.{verdict_text}
use Rattle.wait_report.specs.declared.rows.ObjectRow.{ObjectRow}
use Rattle.wait_report.specs.Calls.{Rising, names_of}
use Rattle.wait_report.specs.Report.{report_text}
use Rattle.watch_text.proofs.waits.report_end.Goals as goal

pub push_report-requires : goal.push_report-requires
push_report-requires c = subst (λ (rows : List ObjectRow). Rising (names_of rows)) (sym c.deref.ensures.value) c.in-Ok.ensures.rising

pub returns-clause-report : goal.returns-clause-report
returns-clause-report c =
    let names = c.args.names.now in
    let rows = c.in-Ok.rows.items in
    let verdict = verdict_text names c.judge_end-verdict.result in
    let told : c.push_report.new.text.items ≡ report_text names rows =
    c.in-Ok-push_report.ensures ∙ ap (λ t. t ++ report_text names c.deref.result.now) c.new-text.ensures.items ∙ ap (report_text names) c.deref.ensures.value in
    (rows, c.in-Ok.ensures.rows, c.in-Ok-push_verdict.ensures ∙ ap (λ t. t ++ verdict) told)
