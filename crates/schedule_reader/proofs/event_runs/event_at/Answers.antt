use Rattle.std.proofs.Common.{rules, ◌≡◌, ◌-◌, ◌<◌, ap, slice_get, ◌∙◌, get_or, length, arith}
use Rattle.std.proofs.lemmas.List.Sorted.{IsPartitionPoint-from_clause, IsPartitionedBy-leb}
use Rattle.std.specs.Prelude.{nat_le}
use Rattle.run_types.specs.declared.types.Event.TheVariants.{Turn}
use Rattle.schedule_reader.specs.declared.event_runs.RunItem.TheVariants.{One}
use Rattle.schedule_reader.specs.declared.event_runs.EventRun.{EventRun}
use Rattle.schedule_reader.specs.EventRuns.{stretched}
use Rattle.schedule_reader.proofs.EventRuns.{IsIn, IsPointFor, ends_rise, point_found, point_within}
use Rattle.schedule_reader.proofs.event_runs.event_at.Goals as goal
use Rattle.schedule_reader.proofs.event_runs.event_at.Goals.{After-partition_point-place}

abbrev blank : EventRun
blank = record { count = 0; end = 0; part = One (Turn 0) }

point : (c : goal.After-partition_point-place) → IsPointFor c.args.stretches.now c.args.number c.partition_point-place.result
point c =
    let ss = c.args.stretches.now in
    IsPartitionPoint-from_clause (λ (s : EventRun). nat_le s.end c.args.number) ss _ c.partition_point-place.ensures.partitioned
    (IsPartitionedBy-leb (λ (s : EventRun). s.end) ss c.args.number (ends_rise c.args.round.now 0 c.args.last ss c.requires.ends)) (λ a r f k. search rules)

within : (c : goal.After-partition_point-place) → c.partition_point-place.result < length c.args.stretches.now
within c = point_within c.args.round.now c.args.last c.args.number _ c.args.stretches.now blank c.requires.ends c.requires.within (point c)

found : (c : goal.After-partition_point-place)
    → (c.args.number < (get_or c.args.stretches.now c.partition_point-place.result blank).end)
    × IsIn c.args.round.now 0 c.args.number c.args.stretches.now (get_or c.args.stretches.now c.partition_point-place.result blank)
found c = point_found c.args.round.now c.args.last c.args.number _ c.args.stretches.now blank c.requires.ends (within c) (point c)

pub bounds-stretches-place : goal.bounds-stretches-place
bounds-stretches-place c = within c

pub event_in-requires : goal.event_in-requires
event_in-requires c =
    let f = found ((goal.at.event_in-requires c).After-partition_point-place) in
    record { small = f.1.small; begins = f.1.begins; ends = f.0 }

pub returns : goal.returns
returns c =
    let i = c.args.number in
    let all = stretched c.args.round.now c.args.stretches.now in
    let from_0 : i ≡ i - 0 = omega arith in
    ap (slice_get all) from_0 ∙ ((found ((goal.at.returns c).After-partition_point-place)).1.same ∙ c.event_in.ensures)
