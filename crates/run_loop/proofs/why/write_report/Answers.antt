use Rattle.std.proofs.Common.{List, Err, refl, sym, ap, subst}
use Rattle.text_scan.specs.Text.{Text}
use Rattle.mesh_of_code.specs.Coded.{coded}
use Rattle.wait_report.specs.declared.rows.ObjectRow.{ObjectRow}
use Rattle.wait_report.specs.Calls.{Rising, names_of}
use Rattle.wait_report.specs.Report.{report_text}
use Rattle.wait_report.specs.KnownRows.{AreKnown}
use Rattle.command_shell.specs.Writing.{Wrote, WroteFront}
use Rattle.command_shell.specs.Writing as R
use Rattle.run_loop.proofs.DriveLaws.{front_of_first, then_writes}
use Rattle.run_loop.proofs.KnownRows.{rows_known, rows_rise}
use Rattle.run_loop.proofs.WhyLaws.{do_rise}
use Rattle.run_loop.proofs.why.write_report.Goals as goal

pub report-requires-clause-rising : goal.report-requires-clause-rising
report-requires-clause-rising g c =
    let u = c.args.machine.now.unit in
    let w = c.requires.under_way in
    let rise = do_rise u w.config w.delay c.args.machine.now.placement w.stands.sound in
    subst (λ (rows : List ObjectRow). Rising (names_of rows)) (sym (c.in-Ok.ensures w.config w.delay w.stands)) (rows_rise (coded u) w.delay w.config.objects rise)

pub report-requires-clause-known : goal.report-requires-clause-known
report-requires-clause-known g c =
    let u = c.args.machine.now.unit in
    let w = c.requires.under_way in
    let rise = do_rise u w.config w.delay c.args.machine.now.placement w.stands.sound in
    subst (λ (names : List Text). AreKnown names c.in-Ok.rows) (sym c.requires.table)
    (subst (AreKnown u.names) (sym (c.in-Ok.ensures w.config w.delay w.stands)) (rows_known u c.requires.proper w.config w.delay w.stands.sound.state.typed rise))

pub returns-in-Ok-report : goal.returns-in-Ok-report
returns-in-Ok-report g c = λ c' d s.
    let rows = c.in-Ok.ensures c' d s in
    let names = c.args.names.now in
    R.written (then_writes _ _ _ _ _ _ (refl, refl)
    (subst (Wrote _) (ap (report_text names) rows) (c.in-Ok-report.ensures.whole, c.in-Ok-report.ensures.no_fault)) c.finish.ensures)

pub returns-in-Err-Failed : goal.returns-in-Err-Failed
returns-in-Err-Failed g c = λ c' d s.
    let rows = c.in-Ok.ensures c' d s in
    let names = c.args.names.now in
    let is = ap Err c.in-Err-Failed.field-0-is in
    let front = c.in-Err-Failed.ensures.front is in
    R.written (R.cut (front_of_first _ _ _
    (subst (WroteFront _) (ap (report_text names) rows)
    (record { front = front; rose = c.in-Err-Failed.ensures.failed is }))) refl)
