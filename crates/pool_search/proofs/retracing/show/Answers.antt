use Rattle.std.proofs.Common.{ap, Ok}
use Rattle.pool_syntax.specs.Terms.{ProgramTree}
use Rattle.pool_syntax.specs.TreeOf.{program_of}
use Rattle.pool_search.specs.SearchTargets.{IsShownFault, IsWantedEnd}
use Rattle.pool_search.proofs.StepperRuns.{leads_in_order}
use Rattle.pool_search.proofs.retracing.show.Goals as goal

pub returns-in-Ok-Stuck : goal.returns-in-Ok-Stuck
returns-in-Ok-Stuck c =
    let q = c.args.question.now in
    let h = c.in-Ok-Stuck.ensures.stuck (ap Ok c.in-Ok-Stuck.field-0-is) in
    leads_in_order (program_of c.args.program.now.program.now) c.in_ok-plain.plain c.judge_end.new.plain c.judge_end.new.shown h.0.0 (λ (p : ProgramTree). IsWantedEnd p q) c.in_ok-plain.ensures.program c.in_ok-plain.ensures.start h.0.1 h.1

pub returns-in-Ok-Fault : goal.returns-in-Ok-Fault
returns-in-Ok-Fault c =
    let q = c.args.question.now in
    let h = c.in-Ok-Fault.ensures.fault (ap Ok c.in-Ok-Fault.field-0-is) in
    leads_in_order (program_of c.args.program.now.program.now) c.in_ok-plain.plain c.judge_end.new.plain c.judge_end.new.shown h.0.0 (λ (p : ProgramTree). IsShownFault p q) c.in_ok-plain.ensures.program c.in_ok-plain.ensures.start h.0.1 h.1
