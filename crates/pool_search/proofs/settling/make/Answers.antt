use Rattle.std.proofs.Common.{ap, Err}
use Rattle.pool_search.proofs.StepperRuns.{made_one}
use Rattle.pool_search.proofs.settling.make.Goals as goal

pub returns-in-Ok : goal.returns-in-Ok
returns-in-Ok c = made_one c.args.plain.now c.apply.new.self c.args.label.now c.apply.ensures.program (c.in-Ok.ensures.going_on (λ z. (cc))).1 c.in-Ok.ensures.made

pub returns-in-Err-NotPossible : goal.returns-in-Err-NotPossible
returns-in-Err-NotPossible c =
    let r = c.in-Err-NotPossible.ensures.refused c.in-Err-NotPossible.field-0-0 (ap Err c.in-Err-NotPossible.field-0-is) in
    (record { program = c.apply.ensures.program; fresh = (c.in-Err-NotPossible.ensures.going_on (λ z. (cc))).1; same = r.1 }, r.0)
