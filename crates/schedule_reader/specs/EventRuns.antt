-- Events stored as runs: an item, its count, and the number of events up to its end.
use Rattle.std.specs.Prelude.{◌≡◌, ℕ, ◌+◌, ◌*◌, List, [], ◌∷◌, length, flat_map}
use Rattle.std.specs.List.{repeat}
use Rattle.run_types.specs.declared.types.Event.{Event}
use Rattle.schedule_reader.specs.declared.event_runs.RunItem.{RunItem}
use Rattle.schedule_reader.specs.declared.event_runs.RunItem.TheVariants as P
use Rattle.schedule_reader.specs.declared.event_runs.EventRun.{EventRun}

-- one event, or a round
abbrev pub part_events : List Event → RunItem → List Event
part_events round (P.One e) = e ∷ []
part_events round P.Round = round

abbrev pub stretch_events : List Event → EventRun → List Event
stretch_events round s = repeat s.count (part_events round s.part)

abbrev pub stretched : List Event → List EventRun → List Event
stretched round ss = flat_map (stretch_events round) ss

-- each end is the number of events up to it, counted from this number on to the last
abbrev pub AreEnds : List Event → ℕ → List EventRun → ℕ → Type 0
AreEnds round from [] last = from ≡ last
AreEnds round from (s ∷ ss) last = (s.end ≡ from + s.count * length (part_events round s.part)) × AreEnds round s.end ss last
