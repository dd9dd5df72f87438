use Rattle.std.proofs.Common.{List, sym, subst}
use Rattle.wait_report.specs.declared.rows.ObjectRow.{ObjectRow}
use Rattle.wait_report.specs.Calls.{Rising, names_of}
use Rattle.watch_text.proofs.watched.push_waits.Goals as goal

pub push_rows-requires : goal.push_rows-requires
push_rows-requires c = subst (λ (rows : List ObjectRow). Rising (names_of rows)) (sym c.deref.ensures.value) c.in_ok-rows.ensures.rising
