use Rattle.std.proofs.Common.{ap, length, arith}
use Rattle.schedule_reader.specs.Schedules.{Plan}
use Rattle.schedule_reader.proofs.EventRuns.{ends_length}
use Rattle.schedule_reader.proofs.schedule.Schedule.len.Goals as goal

pub returns : goal.returns
returns c =
    let s = c.self.inside in
    omega (arith, ends_length s.round.items 0 s.last s.stretches.items c.self.invariant, ap (λ (p : Plan). length p.events) c.self.view_is)
