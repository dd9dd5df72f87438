use Rattle.std.proofs.Common.{ap}
use Rattle.stepper_terms.specs.Changes.{is_expression, is_statement, keeps_temps, next_ready, next_assigns}
use Rattle.object_acts.proofs.act.next_act.Goals as goal

pub returns-in-Expression-clause-suits : goal.returns-in-Expression-clause-suits
returns-in-Expression-clause-suits c =
    c.act_ready.ensures.suits c.args.work.now.calls.items c.args.work.now.next (ap is_expression c.in-Expression.is) (ap next_ready c.in-Expression.is)

pub returns-in-Statement-clause-suits : goal.returns-in-Statement-clause-suits
returns-in-Statement-clause-suits c =
    c.act_task.ensures.suits c.args.work.now.calls.items c.args.work.now.next (ap is_statement c.in-Statement.is) (ap keeps_temps c.in-Statement.is) (ap next_assigns c.in-Statement.is)
