use Rattle.std.proofs.Common.{List, sym, subst}
use Rattle.std.proofs.result.Match.{if_ok_then}
use Rattle.wait_report.specs.declared.rows.ObjectRow.{ObjectRow}
use Rattle.wait_report.specs.Calls.{Rising, names_of}
use Rattle.pool_syntax.specs.TreeOf.{program_of}
use Rattle.waiting_objects.proofs.AscendingWaiters.{waiting_rise}
use Rattle.waiting_objects.proofs.waiting.waiting_rows.Goals as goal

pub returns-clause-rising : goal.returns-clause-rising
returns-clause-rising c =
    let s = c.state-state.result.now in
    if_ok_then c.waiting_in.result _ _
    (λ rows e. subst (λ (rs : List ObjectRow). Rising (names_of rs)) (sym e) (waiting_rise c.args.all (program_of s.program.now) s.objects.entries c.len-count.ensures.ordered))
    c.waiting_in.ensures
