use Rattle.std.proofs.Common.{sym}
use Rattle.run_loop.proofs.WhyLaws.{row_none, row_some, row_still_none}
use Rattle.run_loop.proofs.why.row_at.Goals as goal

pub returns-in-Some-status_of : goal.returns-in-Some-status_of
returns-in-Some-status_of c = λ c' d s.
    row_some c.args.machine.now.unit c' d c.args.name c.in-Some.class c.in-Some-status_of.standing (c.in-Some.ensures c' d s) (c.in-Some-status_of.ensures c' d s)

pub returns-in-None-status_of : goal.returns-in-None-status_of
returns-in-None-status_of c = λ c' d s. sym (row_still_none c.args.machine.now.unit c' d c.args.name c.status_of.result (c.status_of.ensures c' d s) c.in-None-status_of.is)

pub returns-in-None : goal.returns-in-None
returns-in-None c = λ c' d s. sym (row_none c.args.machine.now.unit c' d c.args.name c.class_of.result (c.class_of.ensures c' d s) c.in-None.is)
